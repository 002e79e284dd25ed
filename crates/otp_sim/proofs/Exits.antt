-- What each way out of a run says.
use Rattle.std.proofs.Common.{◌≡◌, ℕ, ◌<◌, ◌≤◌, ◌^◌, ◌+◌, ◌⊎◌, inl, inr, List, [], ◌∷◌, ◌++◌, length, Option, Some, None, is_some, take, true, Err, IfSome, refl, ap, sym, ◌∙◌, append_assoc, subst, arith, length-append}
use Rattle.std.specs.Io.KnownBytes.{Appends, Consumes, IsAtEnd, Keeps}
use Rattle.std.proofs.lemmas.List.{append-nil, take-append-le, take_all}
use Rattle.otp_spec.specs.declared.child.ChildSpec.{ChildSpec}
use Rattle.otp_spec.specs.declared.flags.SupFlags.{SupFlags}
use Rattle.otp_sim.specs.declared.driven.LinesEnd.{LinesEnd}
use Rattle.otp_sim.specs.declared.driven.LinesEnd.TheVariants as stop
use Rattle.otp_sim.specs.declared.engine.SimEnd.{SimEnd}
use Rattle.otp_sim.specs.declared.engine.SimEnd.TheVariants.{Done, LineRefused, HistoryFull, InputFailed, OutputFailed, Memory}
use Rattle.otp_sim.specs.Devices.{Begins, AppendsPart, Devices, Readable, Written}
use Rattle.otp_sim.specs.Sim.{Sim, opened, happen, stepped, take_line, take_lines, lines_of, sim_of, end_of, whole_text}
use Rattle.otp_sim.specs.Runs.{Ran, RanFrom, Broke, Halted, PieceEnds, Finishes, Flushes, NoEnd, ReadsNext, Stopped, Told, Writes, LastWrites, WroteAll, WrotePart, WroteFirst, with_text}
use Rattle.otp_sim.proofs.Texts.{take_line_after, after}
use Rattle.otp_sim.proofs.Writes.{appends_more}
use Rattle.otp_sim.proofs.Progress.{ran_start, ran_read, ran_then, piece_then, ran_part, ran_written, first_line, halted_at, halted_between, last_cut, last_served, ended_served, long_served, stopped_long, whole_served}

pub consumes_none : (known : Option (List ℕ)) → Consumes known known []
consumes_none None = tt
consumes_none (Some xs) = refl

pub consumes_more : (a b c : Option (List ℕ)) (x y : List ℕ) → Consumes a b x → Consumes b c y → Consumes a c (x ++ y)
consumes_more None b c x y first second = tt
consumes_more (Some xs) None c x y first second = absurd first
consumes_more (Some xs) (Some ys) None x y first second = absurd second
consumes_more (Some xs) (Some ys) (Some zs) x y first second = first ∙ ap (λ bytes. x ++ bytes) second ∙ sym (append_assoc x y zs)

pub consumes_kept : (a b c : Option (List ℕ)) (x : List ℕ) → Consumes a b x → Keeps b c → Consumes a c x
consumes_kept None b c x first kept = tt
consumes_kept (Some xs) None c x first kept = absurd first
consumes_kept (Some xs) (Some ys) None x first kept = absurd kept
consumes_kept (Some xs) (Some ys) (Some zs) x first kept = first ∙ ap (λ bytes. x ++ bytes) (sym kept)

-- of the input these bytes were taken, and so it stands
pub record Stands (start s : Sim) (old now : Devices) (ready kept : List ℕ) (count : ℕ) : Type 0 where
  pub taken : List ℕ
  pub consumed : Consumes old.input.left now.input.left taken
  pub ran : Ran start s old.output.bytes now.output.bytes ready taken kept
  pub none : NoEnd kept
  pub size : count ≡ length taken
  pub lines : s.lines ≤ count
  pub reads : old.input.failures ≤ now.input.failures
  pub writes : old.output.failures ≤ now.output.failures

-- only a part was written
part_of : (start : Sim) (taken : List ℕ) (left_old left_now before now : Option (List ℕ)) → Consumes left_old left_now taken → Broke start before now taken
    → IfSome left_old (WrotePart start before now)
unfolding sim_of
part_of start taken None left_now before now consumed broke = tt
part_of start taken (Some bytes) None before now consumed broke = absurd consumed
part_of start taken (Some bytes) (Some rest) before now consumed broke =
    record {
      text = broke.text;
      written = broke.written;
      begins = subst (λ (xs : List ℕ). Begins broke.text (take_lines (lines_of xs) start).text) (sym consumed) (broke.begins rest);
    }

-- the text of the first lines was written, and of some events of the next
first_where : (start : Sim) (taken : List ℕ) (left_old left_now before now : Option (List ℕ)) → Consumes left_old left_now taken
    → ((rest : List ℕ) → left_now ≡ Some rest → WroteFirst start before now (taken ++ rest)) → IfSome left_old (WroteFirst start before now)
first_where start taken None left_now before now consumed wrote = tt
first_where start taken (Some bytes) None before now consumed wrote = absurd consumed
first_where start taken (Some bytes) (Some rest) before now consumed wrote = subst (WroteFirst start before now) (sym consumed) (wrote rest refl)

first_of : (start : Sim) (taken : List ℕ) (left_old left_now before now : Option (List ℕ)) → Consumes left_old left_now taken → Halted start before now taken
    → IfSome left_old (WroteFirst start before now)
first_of start taken left_old left_now before now consumed halted =
    first_where start taken left_old left_now before now consumed
    (λ rest e. record {
      lines = halted.lines;
      others = halted.others rest;
      first = halted.cut rest;
      events = halted.events;
      text = halted.text rest;
    })

-- all was written, where what is left of the input leads to this end
all_of : (start final : Sim) (taken : List ℕ) (left_old left_now before now : Option (List ℕ)) → Consumes left_old left_now taken
    → ((rest : List ℕ) → left_now ≡ Some rest → take_lines (lines_of (taken ++ rest)) start ≡ final) → Appends before now final.text
    → IfSome left_old (WroteAll start before now (end_of final.end))
unfolding sim_of
all_of start final taken None left_now before now consumed same text = tt
all_of start final taken (Some bytes) None before now consumed same text = absurd consumed
all_of start final taken (Some bytes) (Some rest) before now consumed same text =
    let whole : take_lines (lines_of bytes) start ≡ final = ap (λ xs. take_lines (lines_of xs) start) consumed ∙ same rest refl in
    record {
      text = subst (λ (t : Sim). Appends before now t.text) (sym whole) text;
      end = ap (λ (t : Sim). end_of t.end) (sym whole);
    }

-- a part of it was
some_of : (start final : Sim) (taken text : List ℕ) (left_old left_now before now : Option (List ℕ)) → Consumes left_old left_now taken
    → ((rest : List ℕ) → left_now ≡ Some rest → take_lines (lines_of (taken ++ rest)) start ≡ final) → Appends before now text → Begins text final.text
    → IfSome left_old (WrotePart start before now)
unfolding sim_of
some_of start final taken text None left_now before now consumed same written begins = tt
some_of start final taken text (Some bytes) None before now consumed same written begins = absurd consumed
some_of start final taken text (Some bytes) (Some rest) before now consumed same written begins =
    let whole : take_lines (lines_of bytes) start ≡ final = ap (λ xs. take_lines (lines_of xs) start) consumed ∙ same rest refl in
    record { text = text; written = written; begins = subst (λ (t : Sim). Begins text t.text) (sym whole) begins }

ends_so : (reason : Option LinesEnd) (start : Sim) (old now : Devices)
    → IfSome old.input.left (WroteAll start old.output.bytes now.output.bytes (end_of reason)) → Writes (end_of reason) start old now
ends_so None start old now all = all
ends_so (Some (stop.LineRefused line fault)) start old now all = all
ends_so (Some stop.HistoryFull) start old now all = all

-- the way a piece ends is the way the run ends
piece_writes : (how : SimEnd) (start : Sim) (old now : Devices) (taken : List ℕ)
    → Consumes old.input.left now.input.left taken → PieceEnds (Err how) start old.output now.output taken → Writes how start old now
piece_writes Done start old now taken consumed ends = absurd ends
piece_writes (LineRefused number fault) start old now taken consumed ends = absurd ends
piece_writes HistoryFull start old now taken consumed ends = absurd ends
piece_writes InputFailed start old now taken consumed ends = absurd ends
piece_writes OutputFailed start old now taken consumed ends =
    (part_of start taken old.input.left now.input.left old.output.bytes now.output.bytes consumed ends.0, ends.1)
piece_writes Memory start old now taken consumed ends =
    inr (first_of start taken old.input.left now.input.left old.output.bytes now.output.bytes consumed ends)

-- at the start
pub stands_start : (s : Sim) (devices : Devices) (ready kept : List ℕ) → kept ≡ [] → s.lines ≡ 0 → Stands (with_text ready s) s devices devices ready kept 0
stands_start s devices ready kept empty none =
    subst (λ (bytes : List ℕ). Stands (with_text ready s) s devices devices ready bytes 0) (sym empty) (record {
      taken = [];
      consumed = consumes_none devices.input.left;
      ran = ran_start s devices.output.bytes ready [];
      none = λ k d inside. absurd (omega arith);
      size = refl;
      lines = omega arith;
      reads = omega arith;
      writes = omega arith;
    })

-- what is ready is written
pub stands_written : (start s : Sim) (old now : Devices) (ready left kept : List ℕ) (count : ℕ) (written : Written)
    → Stands start s old now ready kept count → Appends now.output.bytes written.bytes ready → left ≡ [] → now.output.failures ≤ written.failures
    → Stands start s old (record now { output = written }) left kept count
stands_written start s old now ready left kept count written stands more empty later =
    subst (λ (bytes : List ℕ). Stands start s old (record now { output = written }) bytes kept count) (sym empty) (record {
      taken = stands.taken;
      consumed = stands.consumed;
      ran = ran_written start s old.output.bytes now.output.bytes written.bytes ready stands.taken kept stands.ran more;
      none = stands.none;
      size = stands.size;
      lines = stands.lines;
      reads = stands.reads;
      writes = omega (arith, stands.writes);
    })

pub stands_told : (start s : Sim) (old now new : Devices) (ready left kept : List ℕ) (count : ℕ)
    → Stands start s old now ready kept count → Told now new ready left
    → Stands start s old (record now { output = new.output }) left kept count
stands_told start s old now new ready left kept count stands told =
    stands_written start s old now ready left kept count new.output stands told.written told.none_left told.failures

pub output_exit : (start s : Sim) (old now : Devices) (ready kept : List ℕ) (count : ℕ) (written : Written)
    → Stands start s old now ready kept count → AppendsPart now.output.bytes written.bytes ready → now.output.failures < written.failures
    → Writes OutputFailed start old (record now { output = written })
output_exit start s old now ready kept count written stands part failed = (
  part_of start stands.taken old.input.left now.input.left old.output.bytes written.bytes stands.consumed
      (ran_part start s old.output.bytes now.output.bytes written.bytes ready stands.taken kept stands.ran part),
  omega (arith, stands.writes),
)

-- for want of memory nothing goes on, but what is ready is written
pub flush_exit : (how : SimEnd) (start s : Sim) (old now : Devices) (ready kept : List ℕ) (count : ℕ) (written : Written)
    → Stands start s old now ready kept count → Flushes how now.output written ready
    → Writes how start old (record now { output = written })
flush_exit Done start s old now ready kept count written stands flushes = absurd flushes
flush_exit (LineRefused number fault) start s old now ready kept count written stands flushes = absurd flushes
flush_exit HistoryFull start s old now ready kept count written stands flushes = absurd flushes
flush_exit InputFailed start s old now ready kept count written stands flushes = absurd flushes
flush_exit OutputFailed start s old now ready kept count written stands flushes =
    output_exit start s old now ready kept count written stands flushes.0 flushes.1
flush_exit Memory start s old now ready kept count written stands flushes =
    inr (first_of start stands.taken old.input.left now.input.left old.output.bytes written.bytes stands.consumed
    (halted_between start s old.output.bytes written.bytes stands.taken kept
    (ran_written start s old.output.bytes now.output.bytes written.bytes ready stands.taken kept stands.ran flushes)))

-- no line is taken any more, and nothing is left to write
stopped_exit : (how : SimEnd) (start s : Sim) (old now : Devices) (ready kept : List ℕ) (count : ℕ) (reason : LinesEnd)
    → Stands start s old now ready kept count → ready ≡ [] → Some reason ≡ s.end → how ≡ end_of (Some reason) → Writes how start old now
stopped_exit how start s old now ready kept count reason some_ready empty ended named =
    let stands = subst (λ (bytes : List ℕ). Stands start s old now bytes kept count) empty some_ready in
    let final : Sim = with_text (stands.ran.written ++ []) s in
    let some : is_some s.end ≡ true = ap is_some (sym ended) in
    let text : Appends old.output.bytes now.output.bytes (stands.ran.written ++ []) = rw append-nil stands.ran.appended in
    let all = all_of start final stands.taken old.input.left now.input.left old.output.bytes now.output.bytes stands.consumed
    (λ rest e. ended_served start final stands.taken kept rest some stands.ran.served) text in
    subst (λ (end : SimEnd). Writes end start old now) (sym named)
    (ends_so (Some reason) start old now
    (subst (λ (end : Option LinesEnd). IfSome old.input.left (WroteAll start old.output.bytes now.output.bytes (end_of end))) (sym ended) all))

-- no line is taken any more, and what is ready is written
told_exit : (how : SimEnd) (start s : Sim) (old now : Devices) (ready kept : List ℕ) (count : ℕ) (reason : LinesEnd) (written : Written)
    → Stands start s old now ready kept count → Some reason ≡ s.end → now.output.failures ≤ written.failures
    → Appends now.output.bytes written.bytes ready → how ≡ end_of (Some reason) → Writes how start old (record now { output = written })
told_exit how start s old now ready kept count reason written stands ended later more named =
    stopped_exit how start s old (record now { output = written }) [] kept count reason
    (stands_written start s old now ready [] kept count written stands more refl later) refl ended named

pub ended_exit : (how : SimEnd) (start s : Sim) (old now : Devices) (ready kept : List ℕ) (count : ℕ) (reason : LinesEnd) (written : Written)
    → Stands start s old now ready kept count → Some reason ≡ s.end → now.output.failures ≤ written.failures
    → Finishes how (Some reason) now.output written ready → Writes how start old (record now { output = written })
ended_exit Done start s old now ready kept count reason written stands ended later last =
    told_exit Done start s old now ready kept count reason written stands ended later last.0 last.1
ended_exit (LineRefused line fault) start s old now ready kept count reason written stands ended later last =
    told_exit (LineRefused line fault) start s old now ready kept count reason written stands ended later last.0 last.1
ended_exit HistoryFull start s old now ready kept count reason written stands ended later last =
    told_exit HistoryFull start s old now ready kept count reason written stands ended later last.0 last.1
ended_exit InputFailed start s old now ready kept count reason written stands ended later last = absurd last
ended_exit OutputFailed start s old now ready kept count reason written stands ended later last =
    output_exit start s old now ready kept count written stands last.0 last.1
ended_exit Memory start s old now ready kept count reason written stands ended later last = absurd last

-- the reader fails
pub input_exit : (start s : Sim) (old now : Devices) (ready kept : List ℕ) (count : ℕ) (unread : Readable)
    → Stands start s old now ready kept count → ready ≡ [] → Keeps now.input.left unread.left
    → ((now.input.failures < unread.failures) ⊎ (2 ^ 62 ≤ count))
    → Writes InputFailed start old (record now { input = unread })
unfolding whole_text
input_exit start s old now ready kept count unread some_ready empty same why =
    let stands = subst (λ (bytes : List ℕ). Stands start s old now bytes kept count) empty some_ready in
    let text : whole_text start stands.taken ≡ stands.ran.written =
    ap (λ (t : Sim). t.text) (whole_served start _ stands.taken kept stands.none stands.ran.served) ∙ append-nil stands.ran.written in
    record {
      taken = stands.taken;
      consumed = consumes_kept old.input.left now.input.left unread.left stands.taken stands.consumed same;
      written = rw text stands.ran.appended;
      why = elim why [ inl failed ↦ inl (omega (arith, stands.reads)) | inr many ↦ inr (omega (arith, stands.size)) ];
    }

-- no more is read, since the writer fails or the reader does
pub next_exit : (how : SimEnd) (start s : Sim) (old now new : Devices) (ready left kept buffer : List ℕ) (count : ℕ)
    → Stands start s old now ready kept count → ReadsNext (Err how) now new ready left buffer → Writes how start old new
next_exit Done start s old now new ready left kept buffer count stands next = absurd next
next_exit (LineRefused line fault) start s old now new ready left kept buffer count stands next = absurd next
next_exit HistoryFull start s old now new ready left kept buffer count stands next = absurd next
next_exit InputFailed start s old now new ready left kept buffer count stands next =
    input_exit start s old (record now { output = new.output }) left kept count new.input
    (stands_told start s old now new ready left kept count stands next.0) next.0.none_left next.1 (inl next.2)
next_exit OutputFailed start s old now new ready left kept buffer count stands next =
    output_exit start s old now ready kept count new.output stands next.2 next.3
next_exit Memory start s old now new ready left kept buffer count stands next = absurd next

-- the reader is at its end
pub stands_end : (start s : Sim) (old now : Devices) (ready kept : List ℕ) (count : ℕ) (unread : Readable)
    → Stands start s old now ready kept count → (piece : List ℕ) → piece ≡ [] → Consumes now.input.left unread.left piece → now.input.failures ≤ unread.failures
    → Stands start s old (record now { input = unread }) ready kept count
stands_end start s old now ready kept count unread stands piece none some later =
    let nothing = subst (Consumes now.input.left unread.left) none some in
    record {
      taken = stands.taken;
      consumed = subst (Consumes old.input.left unread.left) (append-nil stands.taken) (consumes_more old.input.left now.input.left unread.left stands.taken [] stands.consumed nothing);
      ran = stands.ran;
      none = stands.none;
      size = stands.size;
      lines = stands.lines;
      reads = omega (arith, stands.reads);
      writes = stands.writes;
    }

-- a last line is taken
last_exit : (how : SimEnd) (start s : Sim) (old now : Devices) (ready kept line : List ℕ) (count : ℕ) (written : Written)
    (stands : Stands start s old now ready kept count)
    → ((rest : List ℕ) → now.input.left ≡ Some rest → take_lines (lines_of (stands.taken ++ rest)) start ≡ after stands.ran.written (take_line line (with_text ready s)))
    → ((rest : List ℕ) → now.input.left ≡ Some rest → Stopped (with_text ready s) line now.output.bytes written.bytes → WroteFirst start old.output.bytes written.bytes (stands.taken ++ rest))
    → LastWrites how line (with_text ready s) now.output written
    → Writes how start old (record now { output = written })
last_exit Done start s old now ready kept line count written stands final halts last =
    let t : Sim = take_line line (with_text ready s) in
    let text = appends_more old.output.bytes now.output.bytes written.bytes stands.ran.written t.text stands.ran.appended last.0 in
    subst (λ (end : SimEnd). IfSome old.input.left (WroteAll start old.output.bytes written.bytes end)) (sym last.1)
    (all_of start (after stands.ran.written t) stands.taken old.input.left now.input.left old.output.bytes written.bytes stands.consumed final text)
last_exit (LineRefused number fault) start s old now ready kept line count written stands final halts last =
    let t : Sim = take_line line (with_text ready s) in
    let text = appends_more old.output.bytes now.output.bytes written.bytes stands.ran.written t.text stands.ran.appended last.0 in
    subst (λ (end : SimEnd). IfSome old.input.left (WroteAll start old.output.bytes written.bytes end)) (sym last.1)
    (all_of start (after stands.ran.written t) stands.taken old.input.left now.input.left old.output.bytes written.bytes stands.consumed final text)
last_exit HistoryFull start s old now ready kept line count written stands final halts last =
    let t : Sim = take_line line (with_text ready s) in
    let text = appends_more old.output.bytes now.output.bytes written.bytes stands.ran.written t.text stands.ran.appended last.0 in
    subst (λ (end : SimEnd). IfSome old.input.left (WroteAll start old.output.bytes written.bytes end)) (sym last.1)
    (all_of start (after stands.ran.written t) stands.taken old.input.left now.input.left old.output.bytes written.bytes stands.consumed final text)
last_exit InputFailed start s old now ready kept line count written stands final halts last = absurd last
last_exit OutputFailed start s old now ready kept line count written stands final halts last = (
  some_of start (after stands.ran.written (take_line line (with_text ready s))) stands.taken (stands.ran.written ++ last.0.front) old.input.left now.input.left old.output.bytes written.bytes stands.consumed final
      (appends_more old.output.bytes now.output.bytes written.bytes stands.ran.written last.0.front stands.ran.appended last.0.appended)
      (record {
        rest = last.0.begins.rest;
        same = ap (λ bytes. stands.ran.written ++ bytes) last.0.begins.same
            ∙ sym (append_assoc stands.ran.written last.0.front last.0.begins.rest);
      }),
  omega (arith, stands.writes, last.1),
)
last_exit Memory start s old now ready kept line count written stands final halts last =
    inr (first_where start stands.taken old.input.left now.input.left old.output.bytes written.bytes stands.consumed (λ rest e. halts rest e last))

-- at the end of the input
pub end_exit : (how : SimEnd) (start s : Sim) (old now : Devices) (ready kept line : List ℕ) (count : ℕ) (written : Written)
    (stands : Stands start s old now ready kept count) → IsAtEnd now.input.left → line ≡ kept
    → LastWrites how line (with_text ready s) now.output written
    → Writes how start old (record now { output = written })
end_exit how start s old now ready kept line count written stands at_end same_line line_last =
    let last = subst (λ (bytes : List ℕ). LastWrites how bytes (with_text ready s) now.output written) same_line line_last in
    let served : take_lines (lines_of stands.taken) start ≡ after stands.ran.written (take_line kept (with_text ready s)) =
    last_served start _ stands.taken kept stands.none stands.ran.served ∙ take_line_after stands.ran.written kept (with_text ready s) in
    last_exit how start s old now ready kept kept count written stands
    (λ rest e.
    let none : rest ≡ [] = subst IsAtEnd e at_end in
    ap (λ bytes. take_lines (lines_of (stands.taken ++ bytes)) start) none
    ∙ ap (λ bytes. take_lines (lines_of bytes) start) (append-nil stands.taken) ∙ served)
    (λ rest e stopped.
    let none : rest ≡ [] = subst IsAtEnd e at_end in
    let cut : lines_of (stands.taken ++ rest) ≡ stands.ran.served.lines ++ kept ∷ [] =
    ap (λ bytes. lines_of (stands.taken ++ bytes)) none ∙ ap lines_of (append-nil stands.taken)
    ∙ last_cut start _ stands.taken kept stands.none stands.ran.served in
    halted_at start s old.output.bytes now.output.bytes written.bytes ready stands.taken kept (stands.taken ++ rest) kept [] stands.ran cut stopped)
    last

-- at a line that is too long
pub long_exit : (how : SimEnd) (start s : Sim) (old now : Devices) (ready kept line : List ℕ) (count : ℕ) (written : Written)
    (stands : Stands start s old now ready kept count) → 512 < length kept → line ≡ kept
    → LastWrites how line (with_text ready s) now.output written
    → Writes how start old (record now { output = written })
long_exit how start s old now ready kept line count written stands long same_line line_last =
    let last = subst (λ (bytes : List ℕ). LastWrites how bytes (with_text ready s) now.output written) same_line line_last in
    last_exit how start s old now ready kept kept count written stands
    (λ rest e. long_served start _ stands.taken kept rest stands.none long stands.ran.served ∙ take_line_after stands.ran.written kept (with_text ready s))
    (λ rest e stopped.
    let first = first_line kept rest stands.none in
    let cut : lines_of (stands.taken ++ rest) ≡ stands.ran.served.lines ++ (kept ++ first.rest) ∷ first.others =
    stands.ran.served.cut rest ∙ ap (λ lines. stands.ran.served.lines ++ lines) first.same in
    halted_at start s old.output.bytes now.output.bytes written.bytes ready stands.taken kept (stands.taken ++ rest) (kept ++ first.rest) first.others stands.ran cut
    (stopped_long (with_text ready s) kept first.rest now.output.bytes written.bytes long stopped))
    last

-- a piece of the input is served
pub stands_served : (start s t : Sim) (old now new : Devices) (ready ready_now kept kept_now piece : List ℕ) (count count_now : ℕ)
    → Stands start s old now ready kept count → count_now ≡ count + length piece → Consumes now.input.left new.input.left piece
    → now.input.failures ≤ new.input.failures → RanFrom ready s t now.output new.output ready_now (kept ++ piece) kept_now
    → NoEnd kept_now → t.lines ≤ s.lines + length piece → now.output.failures ≤ new.output.failures
    → Stands start t old new ready_now kept_now count_now
stands_served start s t old now new ready ready_now kept kept_now piece count count_now stands counted more reads ran none lines writes =
    record {
      taken = stands.taken ++ piece;
      consumed = consumes_more old.input.left now.input.left new.input.left stands.taken piece stands.consumed more;
      ran = ran_then start s t old.output.bytes now.output.bytes new.output.bytes ready ready_now (stands.taken ++ piece) (kept ++ piece) kept_now
          (ran_read start s old.output.bytes now.output.bytes ready stands.taken kept piece stands.ran) ran;
      none = none;
      size = omega (arith, stands.size, length-append stands.taken piece);
      lines = omega (arith, stands.lines);
      reads = omega (arith, stands.reads);
      writes = omega (arith, stands.writes);
    }

pub piece_exit : (how : SimEnd) (start s : Sim) (old now new : Devices) (ready kept piece : List ℕ) (count : ℕ)
    → Stands start s old now ready kept count → Consumes now.input.left new.input.left piece
    → PieceEnds (Err how) (with_text ready s) now.output new.output (kept ++ piece) → Writes how start old new
piece_exit how start s old now new ready kept piece count stands more ends =
    let taken = consumes_more old.input.left now.input.left new.input.left stands.taken piece stands.consumed more in
    let ran = ran_read start s old.output.bytes now.output.bytes ready stands.taken kept piece stands.ran in
    piece_writes how start old new (stands.taken ++ piece) taken
    (piece_then how start s old.output now.output new.output ready (stands.taken ++ piece) (kept ++ piece) ran stands.writes ends)

pub keeps_known : (known : Option (List ℕ)) → Keeps known known
keeps_known None = tt
keeps_known (Some xs) = refl

-- bytes that were written over a whole buffer
pub written_over : (size : ℕ) (bytes rest : List ℕ) → size ≡ length bytes → take size (bytes ++ rest) ≡ bytes
written_over size bytes rest same =
    let within : size ≤ length bytes = omega arith in
    let all : length bytes ≤ size = omega arith in
    take-append-le size bytes rest within ∙ take_all size bytes all

-- the opening is no line
pub opened_lines : (flags : SupFlags) (specs : List ChildSpec) → (opened flags specs).lines ≡ 0
unfolding opened happen stepped
opened_lines flags specs = refl

-- before the opening nothing was read or written
pub nothing_written : (start : Sim) (devices : Devices) → Writes Memory start devices devices
nothing_written start devices = inl refl

-- one start or the same
pub writes_from : (how : SimEnd) (a b : Sim) (old new : Devices) → a ≡ b → Writes how a old new → Writes how b old new
writes_from how a b old new same writes = subst (λ (start : Sim). Writes how start old new) same writes
