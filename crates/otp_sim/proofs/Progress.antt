-- What serving a line, a piece of the input or its end does to a run.
use Rattle.std.proofs.Common.{◌≡◌, ℕ, zero, suc, ◌+◌, ◌<◌, ◌==◌, Bool, true, false, cond, List, [], ◌∷◌, ◌++◌, length, Option, Some, None, Ok, Err, is_some, take, drop, get_or, position, ◌≤◌, subst, refl, ap, sym, ◌∙◌, append_assoc, arith}
use Rattle.std.specs.Prelude.{Result, OnOk}
use Rattle.std.specs.List.{slice_split, onto_first, position_or_len}
use Rattle.std.proofs.lemmas.List.{append-nil, length-append, length-take, get_or-take}
use Rattle.std.proofs.lemmas.List.Splits.{slice_split_at, slice_split_none, slice_split-cons_no}
use Rattle.std.proofs.lemmas.Bool.{lt-ltb, ltb-true, ltb-false, eqb-true}
use Rattle.std.proofs.lemmas.List.Sums.{fails_before_first, passes_at_first, split_at_first}
use Rattle.std.proofs.lemmas.List.Elements.{All-head, All-tail, All-append, All-from_get_or}
use Rattle.otp_text.specs.LineFaults.{at_word, line_fault, verb_fault}
use Rattle.otp_text.specs.declared.fault.text.LineFault.TheVariants as fault
use Rattle.otp_text.specs.Words.{take_word, words_of}
use Rattle.otp_text.specs.Lines.{line_of, line_of_words, verb_of}
use Rattle.otp_sim.specs.Devices.{Begins}
use Rattle.otp_sim.specs.Sim.{Sim, begin_form, begin_line, followed, settled, take_line, take_lines, lines_of, but_last}
use Rattle.otp_sim.specs.declared.driven.LinesEnd.TheVariants as stop
use Rattle.otp_sim.specs.declared.engine.SimEnd.{SimEnd}
use Rattle.otp_sim.specs.declared.engine.SimEnd.TheVariants.{Done, LineRefused, HistoryFull, InputFailed, OutputFailed, Memory}
use Rattle.otp_sim.specs.Runs.{Served, Ran, Played, Stopped, LineEnds, Broke, Halted, PieceEnds, Flushes, NoEnd, WroteFirst, begun, begun_first, with_text}
use Rattle.otp_sim.specs.Devices.{AppendsPart, Written}
use Rattle.std.specs.Io.KnownBytes.{Appends}
use Rattle.otp_sim.proofs.Writes.{appends_none, appends_more}
use Rattle.otp_sim.proofs.Settled.{ended_none, settled_done}
use Rattle.otp_sim.proofs.Texts.{take_lines_after, begun_after, begun_first_after, begins_then, after}

abbrev is_end : ℕ → Bool
is_end byte = byte == 10

take_lines_append : (xs ys : List (List ℕ)) (s : Sim) → take_lines (xs ++ ys) s ≡ take_lines ys (take_lines xs s)
unfolding take_lines
take_lines_append [] ys s = refl
take_lines_append (x ∷ xs) ys s = take_lines_append xs ys (take_line x s)

take_one : (line : List ℕ) (s : Sim) → take_lines (line ∷ []) s ≡ take_line line s
unfolding take_lines
take_one line s = refl

-- after the end no line is taken
begin_ended : (line : List ℕ) (s : Sim) → is_some s.end ≡ true → begin_line line s ≡ s
unfolding begin_line
begin_ended line s e = ap (λ ended. cond ended s (begin_form line (line_of line) (record s { lines = s.lines + 1 }))) e

take_lines_ended : (lines : List (List ℕ)) (s : Sim) → is_some s.end ≡ true → take_lines lines s ≡ s
unfolding take_lines take_line
take_lines_ended [] s e = refl
take_lines_ended (line ∷ others) s e =
    let here : take_line line s ≡ s = ap settled (begin_ended line s e) ∙ settled_done s (ended_none s e) in
    ap (take_lines others) here ∙ take_lines_ended others s e

no_parts : List (List ℕ) → Bool
no_parts [] = true
no_parts (_ ∷ _) = false

onto_first_some : (byte : ℕ) (parts : List (List ℕ)) → no_parts (onto_first byte parts) ≡ false
unfolding no_parts
onto_first_some byte [] = refl
onto_first_some byte (_ ∷ _) = refl

parts_some : (test : ℕ → Bool) (bytes : List ℕ) → no_parts (slice_split test bytes) ≡ false
unfolding no_parts
parts_some test [] = refl
parts_some test (byte ∷ bytes) =
    elim (test byte) as (λ t. no_parts (cond t ([] ∷ slice_split test bytes) (onto_first byte (slice_split test bytes))) ≡ false)
    [ true ↦ refl | false ↦ onto_first_some byte (slice_split test bytes) ]

head_none : (byte : ℕ) (bytes : List ℕ) → NoEnd (byte ∷ bytes) → (byte == 10) ≡ false
head_none byte bytes none = All-head (λ b. (b == 10) ≡ false) byte bytes none

tail_none : (byte : ℕ) (bytes : List ℕ) → NoEnd (byte ∷ bytes) → NoEnd bytes
tail_none byte bytes none = All-tail (λ b. (b == 10) ≡ false) byte bytes none

-- more is read
pub more_read : (start s : Sim) (taken waiting piece : List ℕ) → Served start taken waiting s → Served start (taken ++ piece) (waiting ++ piece) s
more_read start s taken waiting piece served =
    record {
      lines = served.lines;
      cut = λ more. ap lines_of (append_assoc taken piece more) ∙ served.cut (piece ++ more)
          ∙ ap (λ bytes. served.lines ++ lines_of bytes) (sym (append_assoc waiting piece more));
      so_far = served.so_far;
    }

-- the first line of what waits, whatever comes
first_cut : (line others more : List ℕ) → NoEnd line → lines_of ((line ++ 10 ∷ others) ++ more) ≡ line ∷ lines_of (others ++ more)
unfolding lines_of
first_cut line others more none = ap lines_of (append_assoc line (10 ∷ others) more) ∙ slice_split_at is_end line 10 (others ++ more) none refl

-- at the end of the input the line that waits is the last
pub last_cut : (start s : Sim) (taken line : List ℕ) → NoEnd line → (served : Served start taken line s) → lines_of taken ≡ served.lines ++ line ∷ []
unfolding lines_of
last_cut start s taken line none served =
    ap lines_of (sym (append-nil taken)) ∙ served.cut []
    ∙ ap (λ bytes. served.lines ++ lines_of bytes) (append-nil line)
    ∙ ap (λ lines. served.lines ++ lines) (slice_split_none is_end line none)

-- at the end of the input the last line is served
pub last_served : (start s : Sim) (taken line : List ℕ) → NoEnd line → Served start taken line s
    → take_lines (lines_of taken) start ≡ take_line line s
last_served start s taken line none served =
    ap (λ lines. take_lines lines start) (last_cut start s taken line none served)
    ∙ take_lines_append served.lines (line ∷ []) start
    ∙ ap (take_lines (line ∷ [])) (sym served.so_far)
    ∙ take_one line s

-- after the end, what follows changes nothing
pub ended_served : (start s : Sim) (taken waiting more : List ℕ) → is_some s.end ≡ true → Served start taken waiting s
    → take_lines (lines_of (taken ++ more)) start ≡ s
ended_served start s taken waiting more e served =
    ap (λ lines. take_lines lines start) (served.cut more)
    ∙ take_lines_append served.lines (lines_of (waiting ++ more)) start
    ∙ ap (take_lines (lines_of (waiting ++ more))) (sym served.so_far)
    ∙ take_lines_ended (lines_of (waiting ++ more)) s e

-- the lines of which the end has come are all but the one that waits
but_last_append : (lines : List (List ℕ)) (line : List ℕ) → but_last (lines ++ line ∷ []) ≡ lines
but_last_append [] line = refl
but_last_append (first ∷ []) line = refl
but_last_append (first ∷ second ∷ others) line = ap (λ rest. first ∷ rest) (but_last_append (second ∷ others) line)

pub whole_served : (start s : Sim) (taken line : List ℕ) → NoEnd line → Served start taken line s
    → take_lines (but_last (lines_of taken)) start ≡ s
whole_served start s taken line none served =
    ap (λ lines. take_lines (but_last lines) start) (last_cut start s taken line none served)
    ∙ ap (λ lines. take_lines lines start) (but_last_append served.lines line)
    ∙ sym served.so_far

-- a line that is too long already is refused, however it goes on
pub record FirstLine (line bytes : List ℕ) : Type 0 where
  pub rest : List ℕ
  pub others : List (List ℕ)
  pub same : lines_of bytes ≡ (line ++ rest) ∷ others

first_line_more : (byte : ℕ) (parts : List (List ℕ)) (line rest : List ℕ) (others : List (List ℕ))
    → parts ≡ (line ++ rest) ∷ others → onto_first byte parts ≡ ((byte ∷ line) ++ rest) ∷ others
first_line_more byte parts line rest others e = ap (onto_first byte) e

some_line : (bytes : List ℕ) (parts : List (List ℕ)) → parts ≡ lines_of bytes → no_parts parts ≡ false → FirstLine [] bytes
unfolding no_parts
some_line bytes [] e none = let contradiction : ⊥ = cc in absurd contradiction
some_line bytes (part ∷ others) e none = record { rest = part; others = others; same = sym e }

pub first_line : (line more : List ℕ) → NoEnd line → FirstLine line (line ++ more)
unfolding lines_of
first_line [] more none = some_line more (lines_of more) refl (parts_some is_end more)
first_line (byte ∷ line) more none =
    let later = first_line line more (tail_none byte line none) in
    record {
      rest = later.rest;
      others = later.others;
      same = slice_split-cons_no is_end byte (line ++ more) (head_none byte line none)
          ∙ first_line_more byte (lines_of (line ++ more)) line later.rest later.others later.same;
    }

too_long : (line rest : List ℕ) → 512 < length line → line_of (line ++ rest) ≡ None
unfolding line_of
too_long [] rest long = absurd (omega arith)
too_long (byte ∷ line) rest long =
    let longer : 512 < length ((byte ∷ line) ++ rest) = omega (arith, length-append (byte ∷ line) rest) in
    ap (λ test. cond test None (line_of_words (words_of ((byte ∷ line) ++ rest)))) (lt-ltb 512 (length ((byte ∷ line) ++ rest)) longer)

fault_too_long : (line rest : List ℕ) → 512 < length line → line_fault (line ++ rest) ≡ fault.TooLong
unfolding line_fault
fault_too_long line rest long =
    let longer : 512 < length (line ++ rest) = omega (arith, length-append line rest) in
    ap (λ test. cond test fault.TooLong (at_word fault.UnknownVerb (take_word (words_of (line ++ rest))) (λ word others. verb_fault (verb_of word) word others)))
    (lt-ltb 512 (length (line ++ rest)) longer)

form_too_long : (line rest : List ℕ) (s : Sim) → 512 < length line
    → begin_form (line ++ rest) (line_of (line ++ rest)) s ≡ record s { end = Some (stop.LineRefused s.lines fault.TooLong) }
unfolding begin_form
form_too_long line rest s long =
    ap (λ form. begin_form (line ++ rest) form s) (too_long line rest long)
    ∙ ap (λ why. record s { end = Some (stop.LineRefused s.lines why) }) (fault_too_long line rest long)

begin_same : (line rest : List ℕ) (s : Sim) → 512 < length line → begin_line (line ++ rest) s ≡ begin_line line s
unfolding begin_line
begin_same line rest s long =
    let next : Sim = record s { lines = s.lines + 1 } in
    ap (λ (m : Sim). cond (is_some s.end) s m)
    (form_too_long line rest next long
    ∙ sym (ap (λ (bytes : List ℕ). begin_form bytes (line_of bytes) next) (sym (append-nil line)) ∙ form_too_long line [] next long))

begun_same : (events : ℕ) (line rest : List ℕ) (s : Sim) → 512 < length line → begun events (line ++ rest) s ≡ begun events line s
unfolding begun
begun_same zero line rest s long = refl
begun_same (suc events) line rest s long = ap (followed events) (begin_same line rest s long)

refused_same : (line rest : List ℕ) (s : Sim) → 512 < length line → take_line (line ++ rest) s ≡ take_line line s
unfolding take_line
refused_same line rest s long = ap settled (begin_same line rest s long)

begin_refused : (line : List ℕ) (s : Sim) → 512 < length line → is_some (begin_line line s).end ≡ true
unfolding begin_line begin_form
begin_refused line s long =
    rw (ap line_of (sym (append-nil line)) ∙ too_long line [] long)
    (elim (is_some s.end) as (λ ended. is_some s.end ≡ ended → is_some (cond ended s (begin_form line None (record s { lines = s.lines + 1 }))).end ≡ true)
    [ true ↦ λ e. e | false ↦ λ e. refl ] refl)

refused_ends : (line : List ℕ) (s : Sim) → 512 < length line → is_some (take_line line s).end ≡ true
unfolding take_line
refused_ends line s long =
    let e : is_some (begin_line line s).end ≡ true = begin_refused line s long in
    ap (λ (t : Sim). is_some t.end) (settled_done (begin_line line s) (ended_none (begin_line line s) e)) ∙ e

pub long_served : (start s : Sim) (taken line more : List ℕ) → NoEnd line → 512 < length line → Served start taken line s
    → take_lines (lines_of (taken ++ more)) start ≡ take_line line s
unfolding take_lines
long_served start s taken line more none long served =
    let first = first_line line more none in
    ap (λ lines. take_lines lines start) (served.cut more)
    ∙ take_lines_append served.lines (lines_of (line ++ more)) start
    ∙ ap (take_lines (lines_of (line ++ more))) (sym served.so_far)
    ∙ ap (λ lines. take_lines lines s) first.same
    ∙ ap (take_lines first.others) (refused_same line first.rest s long)
    ∙ take_lines_ended first.others (take_line line s) (refused_ends line s long)

-- what is printed for more lines begins with what is printed so far
pub text_begins : (lines : List (List ℕ)) (s : Sim) → Begins s.text (take_lines lines s).text
text_begins lines s =
    let bare : Sim = with_text [] s in
    let whole : take_lines lines s ≡ after s.text (take_lines lines bare) =
    ap (λ text. take_lines lines (with_text text s)) (sym (append-nil s.text)) ∙ take_lines_after s.text lines bare in
    record { rest = (take_lines lines bare).text; same = ap (λ (t : Sim). t.text) whole }

-- so a part of that is a part of the text with one line more
pub line_part : (line : List ℕ) (s : Sim) (before now : Option (List ℕ)) → AppendsPart before now s.text → AppendsPart before now (take_line line s).text
unfolding take_lines
line_part line s before now part =
    let more : Begins s.text (take_line line s).text = text_begins (line ∷ []) s in
    record {
      front = part.front;
      appended = part.appended;
      begins = record {
        rest = part.begins.rest ++ more.rest;
        same = more.same ∙ ap (λ bytes. bytes ++ more.rest) part.begins.same ∙ append_assoc part.front part.begins.rest more.rest;
      };
    }

pub served_begins : (start s : Sim) (taken waiting more : List ℕ) → Served start taken waiting s
    → Begins s.text (take_lines (lines_of (taken ++ more)) start).text
served_begins start s taken waiting more served =
    let all : take_lines (lines_of (taken ++ more)) start ≡ take_lines (lines_of (waiting ++ more)) s =
    ap (λ lines. take_lines lines start) (served.cut more)
    ∙ take_lines_append served.lines (lines_of (waiting ++ more)) start
    ∙ ap (take_lines (lines_of (waiting ++ more))) (sym served.so_far) in
    rw all (text_begins (lines_of (waiting ++ more)) s)

-- a part of a run goes on where another one stopped
pub served_then : (start s0 s1 : Sim) (taken waiting rest : List ℕ) → Served start taken waiting s0 → Served s0 waiting rest s1
    → Served start taken rest s1
served_then start s0 s1 taken waiting rest first second =
    record {
      lines = first.lines ++ second.lines;
      cut = λ more. first.cut more ∙ ap (λ lines. first.lines ++ lines) (second.cut more)
          ∙ sym (append_assoc first.lines second.lines (lines_of (rest ++ more)));
      so_far = second.so_far ∙ ap (take_lines second.lines) first.so_far ∙ sym (take_lines_append first.lines second.lines start);
    }

-- and what was written before doesn't matter
served_after : (front : List ℕ) (start s : Sim) (taken waiting : List ℕ) → Served start taken waiting s → Served (after front start) taken waiting (after front s)
served_after front start s taken waiting served =
    record {
      lines = served.lines;
      cut = served.cut;
      so_far = ap (after front) served.so_far ∙ sym (take_lines_after front served.lines start);
    }

pub ran_start : (s : Sim) (known : Option (List ℕ)) (ready waiting : List ℕ) → Ran (with_text ready s) s known known ready waiting waiting
unfolding take_lines
ran_start s known ready waiting =
    record { written = []; appended = appends_none known; served = record { lines = []; cut = λ more. refl; so_far = refl } }

pub ran_then : (start s0 s1 : Sim) (before mid now : Option (List ℕ)) (ready0 ready1 taken waiting rest : List ℕ)
    → Ran start s0 before mid ready0 taken waiting → Ran (with_text ready0 s0) s1 mid now ready1 waiting rest
    → Ran start s1 before now ready1 taken rest
ran_then start s0 s1 before mid now ready0 ready1 taken waiting rest first second =
    let later : Served (with_text (first.written ++ ready0) s0) waiting rest (with_text (first.written ++ (second.written ++ ready1)) s1) =
    served_after first.written (with_text ready0 s0) (with_text (second.written ++ ready1) s1) waiting rest second.served in
    record {
      written = first.written ++ second.written;
      appended = appends_more before mid now first.written second.written first.appended second.appended;
      served = rw (append_assoc first.written second.written ready1) (served_then start _ _ taken waiting rest first.served later);
    }

-- what is ready is written
pub ran_written : (start s : Sim) (before mid now : Option (List ℕ)) (ready taken waiting : List ℕ)
    → Ran start s before mid ready taken waiting → Appends mid now ready → Ran start s before now [] taken waiting
ran_written start s before mid now ready taken waiting ran more =
    record {
      written = ran.written ++ ready;
      appended = appends_more before mid now ran.written ready ran.appended more;
      served = rw (append-nil (ran.written ++ ready)) ran.served;
    }

-- more of the input is read
pub ran_read : (start s : Sim) (before now : Option (List ℕ)) (ready taken waiting piece : List ℕ)
    → Ran start s before now ready taken waiting → Ran start s before now ready (taken ++ piece) (waiting ++ piece)
ran_read start s before now ready taken waiting piece ran =
    record { written = ran.written; appended = ran.appended; served = more_read start _ taken waiting piece ran.served }

-- what was written is a beginning, and so is it with a part of what is ready
pub begins_front : (front rest whole : List ℕ) → Begins (front ++ rest) whole → Begins front whole
begins_front front rest whole begins =
    record { rest = rest ++ begins.rest; same = begins.same ∙ append_assoc front rest begins.rest }

pub ran_part : (start s : Sim) (before mid now : Option (List ℕ)) (ready taken waiting : List ℕ)
    → Ran start s before mid ready taken waiting → AppendsPart mid now ready → Broke start before now taken
ran_part start s before mid now ready taken waiting ran part =
    record {
      text = ran.written ++ part.front;
      written = appends_more before mid now ran.written part.front ran.appended part.appended;
      begins = λ more.
          let whole : Begins (ran.written ++ ready) (take_lines (lines_of (taken ++ more)) start).text =
          served_begins start _ taken waiting more ran.served in
          let split : ran.written ++ ready ≡ (ran.written ++ part.front) ++ part.begins.rest =
          ap (λ bytes. ran.written ++ bytes) part.begins.same ∙ sym (append_assoc ran.written part.front part.begins.rest) in
          begins_front (ran.written ++ part.front) part.begins.rest _ (rw (← split) whole);
    }

broke_then : (start s : Sim) (before mid now : Option (List ℕ)) (ready taken waiting : List ℕ)
    → Ran start s before mid ready taken waiting → Broke (with_text ready s) mid now waiting → Broke start before now taken
broke_then start s before mid now ready taken waiting ran broke =
    record {
      text = ran.written ++ broke.text;
      written = appends_more before mid now ran.written broke.text ran.appended broke.written;
      begins = λ more.
          let all : take_lines (lines_of (taken ++ more)) start ≡ after ran.written (take_lines (lines_of (waiting ++ more)) (with_text ready s)) =
          ap (λ lines. take_lines lines start) (ran.served.cut more)
          ∙ take_lines_append ran.served.lines (lines_of (waiting ++ more)) start
          ∙ ap (take_lines (lines_of (waiting ++ more))) (sym ran.served.so_far)
          ∙ take_lines_after ran.written (lines_of (waiting ++ more)) (with_text ready s) in
          let front = broke.begins more in
          record {
            rest = front.rest;
            same = ap (λ (t : Sim). t.text) all ∙ ap (λ bytes. ran.written ++ bytes) front.same
                ∙ sym (append_assoc ran.written broke.text front.rest);
          };
    }

-- the same where memory was refused
halted_then : (start s : Sim) (before mid now : Option (List ℕ)) (ready taken waiting : List ℕ)
    → Ran start s before mid ready taken waiting → Halted (with_text ready s) mid now waiting → Halted start before now taken
halted_then start s before mid now ready taken waiting ran halted =
    let first : List (List ℕ) = ran.served.lines in
    let then : List (List ℕ) = halted.lines in
    let all : take_lines (first ++ then) start ≡ after ran.written (take_lines then (with_text ready s)) =
    take_lines_append first then start ∙ ap (take_lines then) (sym ran.served.so_far) ∙ take_lines_after ran.written then (with_text ready s) in
    record {
      lines = first ++ then;
      others = halted.others;
      cut = λ more. ran.served.cut more ∙ ap (λ lines. first ++ lines) (halted.cut more) ∙ sym (append_assoc first then (halted.others more));
      events = halted.events;
      text = λ more.
          let same : begun_first halted.events (halted.others more) (take_lines (first ++ then) start)
          ≡ after ran.written (begun_first halted.events (halted.others more) (take_lines then (with_text ready s))) =
          ap (begun_first halted.events (halted.others more)) all
          ∙ begun_first_after halted.events ran.written (halted.others more) (take_lines then (with_text ready s)) in
          subst (λ (t : Sim). Appends before now t.text) (sym same) (appends_more before mid now ran.written _ ran.appended (halted.text more));
    }

-- no event of the next line
begun_none : (lines : List (List ℕ)) (s : Sim) → begun_first zero lines s ≡ s
unfolding begun_first begun
begun_none [] s = refl
begun_none (line ∷ _) s = refl

pub halted_between : (start s : Sim) (before now : Option (List ℕ)) (taken waiting : List ℕ)
    → Ran start s before now [] taken waiting → Halted start before now taken
halted_between start s before now taken waiting ran =
    record {
      lines = ran.served.lines;
      others = λ more. lines_of (waiting ++ more);
      cut = ran.served.cut;
      events = zero;
      text = λ more.
          let same : with_text (ran.written ++ []) s ≡ begun_first zero (lines_of (waiting ++ more)) (take_lines ran.served.lines start) =
          ran.served.so_far ∙ sym (begun_none (lines_of (waiting ++ more)) (take_lines ran.served.lines start)) in
          subst (λ (t : Sim). Appends before now t.text) same (rw (append-nil ran.written) ran.appended);
    }

-- memory was refused within the line that is the next of the input
pub halted_at : (start s : Sim) (before mid now : Option (List ℕ)) (ready taken waiting bytes next : List ℕ) (others : List (List ℕ))
    (ran : Ran start s before mid ready taken waiting) → lines_of bytes ≡ ran.served.lines ++ next ∷ others
    → Stopped (with_text ready s) next mid now → WroteFirst start before now bytes
unfolding begun_first
halted_at start s before mid now ready taken waiting bytes next others ran first stopped =
    let same : begun stopped.events next (take_lines ran.served.lines start) ≡ after ran.written (begun stopped.events next (with_text ready s)) =
    ap (begun stopped.events next) (sym ran.served.so_far) ∙ begun_after stopped.events ran.written next (with_text ready s) in
    record {
      lines = ran.served.lines;
      others = next ∷ others;
      first = first;
      events = stopped.events;
      text = subst (λ (t : Sim). Appends before now t.text) (sym same) (appends_more before mid now ran.written _ ran.appended stopped.text);
    }

-- a line that is too long already goes on in any way
pub stopped_long : (s : Sim) (line rest : List ℕ) (before now : Option (List ℕ)) → 512 < length line → Stopped s line before now → Stopped s (line ++ rest) before now
stopped_long s line rest before now long stopped =
    record {
      events = stopped.events;
      text = subst (λ (t : Sim). Appends before now t.text) (sym (begun_same stopped.events line rest s long)) stopped.text;
    }

-- a piece ends, after a part of the run
pub piece_then : (how : SimEnd) (start s : Sim) (before mid now : Written) (ready taken waiting : List ℕ)
    → Ran start s before.bytes mid.bytes ready taken waiting → before.failures ≤ mid.failures
    → PieceEnds (Err how) (with_text ready s) mid now waiting → PieceEnds (Err how) start before now taken
piece_then Done start s before mid now ready taken waiting ran later ends = ends
piece_then (LineRefused number fault) start s before mid now ready taken waiting ran later ends = ends
piece_then HistoryFull start s before mid now ready taken waiting ran later ends = ends
piece_then InputFailed start s before mid now ready taken waiting ran later ends = ends
piece_then OutputFailed start s before mid now ready taken waiting ran later ends =
    (broke_then start s before.bytes mid.bytes now.bytes ready taken waiting ran ends.0, omega (arith, ends.1))
piece_then Memory start s before mid now ready taken waiting ran later ends =
    halted_then start s before.bytes mid.bytes now.bytes ready taken waiting ran ends

-- for want of memory what is ready is written, and then the piece ends
pub flushed : (how : SimEnd) (start s : Sim) (before mid now : Written) (ready taken waiting : List ℕ)
    → Ran start s before.bytes mid.bytes ready taken waiting → before.failures ≤ mid.failures → Flushes how mid now ready
    → PieceEnds (Err how) start before now taken
flushed Done start s before mid now ready taken waiting ran later flushes = flushes
flushed (LineRefused number fault) start s before mid now ready taken waiting ran later flushes = flushes
flushed HistoryFull start s before mid now ready taken waiting ran later flushes = flushes
flushed InputFailed start s before mid now ready taken waiting ran later flushes = flushes
flushed OutputFailed start s before mid now ready taken waiting ran later flushes =
    (ran_part start s before.bytes mid.bytes now.bytes ready taken waiting ran flushes.0, omega (arith, flushes.1))
flushed Memory start s before mid now ready taken waiting ran later flushes =
    halted_between start s before.bytes now.bytes taken waiting
    (ran_written start s before.bytes mid.bytes now.bytes ready taken waiting ran flushes)

-- a piece is cut at its first LF
not_found : (found : Bool) (place : ℕ) → cond found (Some place) None ≡ None → found ≡ false
not_found true place e = cc
not_found false place e = refl

found_at : (found : Bool) (place end : ℕ) → cond found (Some place) None ≡ Some end → (found ≡ true) × (place ≡ end)
found_at true place end e = (refl, cc)
found_at false place end e = cc

pub no_end_left : (bytes : List ℕ) → position is_end bytes ≡ None → NoEnd bytes
no_end_left bytes e =
    let past : length bytes ≤ position_or_len is_end bytes = ltb-false _ _ (not_found _ _ e) in
    All-from_get_or (λ byte. is_end byte ≡ false) bytes 0
    (λ i inside. let before : i < position_or_len is_end bytes = omega arith in fails_before_first is_end bytes i 0 before)

pub record Split (bytes : List ℕ) (end : ℕ) : Type 0 where
  pub same : bytes ≡ take end bytes ++ 10 ∷ drop (end + 1) bytes
  pub none : NoEnd (take end bytes)

pub piece_split : (bytes : List ℕ) (end : ℕ) → position is_end bytes ≡ Some end → Split bytes end
piece_split bytes end e =
    let both = found_at _ _ end e in
    let inside : position_or_len is_end bytes < length bytes = ltb-true _ _ both.0 in
    let is_ten : get_or bytes (position_or_len is_end bytes) 0 ≡ 10 = eqb-true _ _ (passes_at_first is_end bytes 0 inside) in
    let whole : bytes ≡ take (position_or_len is_end bytes) bytes ++ 10 ∷ drop (position_or_len is_end bytes + 1) bytes =
    split_at_first is_end bytes 0 inside
    ∙ ap (λ byte. take (position_or_len is_end bytes) bytes ++ byte ∷ drop (position_or_len is_end bytes + 1) bytes) is_ten in
    let none : NoEnd (take (position_or_len is_end bytes) bytes) =
    All-from_get_or (λ byte. is_end byte ≡ false) (take (position_or_len is_end bytes) bytes) 0
    (λ i short.
    let before : i < position_or_len is_end bytes = omega (arith, length-take (position_or_len is_end bytes) bytes) in
    rw (get_or-take (position_or_len is_end bytes) bytes i 0 before) (fails_before_first is_end bytes i 0 before)) in
    subst (Split bytes) both.1 (record { same = whole; none = none })

cut_waiting : (kept rest : List ℕ) (end : ℕ) → Split rest end → kept ++ rest ≡ (kept ++ take end rest) ++ 10 ∷ drop (end + 1) rest
cut_waiting kept rest end split =
    ap (λ bytes. kept ++ bytes) split.same ∙ sym (append_assoc kept (take end rest) (10 ∷ drop (end + 1) rest))

pub part_no_end : (kept rest : List ℕ) (end : ℕ) → position is_end rest ≡ Some end → NoEnd kept → NoEnd (kept ++ take end rest)
part_no_end kept rest end found none = All-append (λ byte. (byte == 10) ≡ false) kept (take end rest) none (piece_split rest end found).none

pub rest_no_end : (kept rest : List ℕ) → position is_end rest ≡ None → NoEnd kept → NoEnd (kept ++ rest)
rest_no_end kept rest found none = All-append (λ byte. (byte == 10) ≡ false) kept rest none (no_end_left rest found)

pub next_ends : (how : SimEnd) (start s : Sim) (before mid now : Written) (ready taken kept rest : List ℕ) (end : ℕ)
    → position is_end rest ≡ Some end → Ran start s before.bytes mid.bytes ready taken (kept ++ rest) → before.failures ≤ mid.failures
    → ((others : List ℕ) → PieceEnds (Err how) (with_text ready s) mid now ((kept ++ take end rest) ++ 10 ∷ others))
    → PieceEnds (Err how) start before now taken
next_ends how start s before mid now ready taken kept rest end found ran later ends =
    let whole = cut_waiting kept rest end (piece_split rest end found) in
    let here : PieceEnds (Err how) (with_text ready s) mid now (kept ++ rest) = rw whole (ends (drop (end + 1) rest)) in
    piece_then how start s before mid now ready taken (kept ++ rest) ran later here

pub next_ran : (start s t : Sim) (before mid now : Option (List ℕ)) (ready left taken kept kept_now rest rest_now : List ℕ) (end : ℕ)
    → position is_end rest ≡ Some end → Ran start s before mid ready taken (kept ++ rest)
    → ((others : List ℕ) → Ran (with_text ready s) t mid now left ((kept ++ take end rest) ++ 10 ∷ others) others)
    → kept_now ≡ [] → rest_now ≡ drop (end + 1) rest
    → Ran start t before now left taken (kept_now ++ rest_now)
next_ran start s t before mid now ready left taken kept kept_now rest rest_now end found ran step none same =
    let whole = cut_waiting kept rest end (piece_split rest end found) in
    let after_line : Ran (with_text ready s) t mid now left (kept ++ rest) (drop (end + 1) rest) = rw whole (step (drop (end + 1) rest)) in
    rw (none, same) (ran_then start s t before mid now ready left taken (kept ++ rest) (drop (end + 1) rest) ran after_line)

-- the first of the lines that wait is served
line_first : (start : Sim) (line others : List ℕ) → NoEnd line → Served start (line ++ 10 ∷ others) others (take_line line start)
line_first start line others none =
    record { lines = line ∷ []; cut = λ more. first_cut line others more none; so_far = sym (take_one line start) }

-- one line is served, and perhaps some of the text written
pub line_ran : (s t : Sim) (before now : Option (List ℕ)) (ready left line : List ℕ)
    → NoEnd line → Played (with_text ready s) t line before now left
    → (others : List ℕ) → Ran (with_text ready s) t before now left (line ++ 10 ∷ others) others
line_ran s t before now ready left line none played others =
    record {
      written = played.written;
      appended = played.appended;
      served = subst (Served (with_text ready s) (line ++ 10 ∷ others) others) (sym played.same) (line_first (with_text ready s) line others none);
    }

-- a piece ends within a line
pub line_piece : (how : SimEnd) (s : Sim) (before now : Written) (ready line : List ℕ)
    → NoEnd line → LineEnds (Err how) (with_text ready s) line before now
    → (others : List ℕ) → PieceEnds (Err how) (with_text ready s) before now (line ++ 10 ∷ others)
unfolding take_lines begun_first
line_piece Done s before now ready line none ends others = ends
line_piece (LineRefused number fault) s before now ready line none ends others = ends
line_piece HistoryFull s before now ready line none ends others = ends
line_piece InputFailed s before now ready line none ends others = ends
line_piece OutputFailed s before now ready line none ends others =
    let start : Sim = with_text ready s in (
      record {
        text = ends.0.front;
        written = ends.0.appended;
        begins = λ more.
            begins_then ends.0.front (take_line line start).text _ ends.0.begins
            (served_begins start (take_line line start) (line ++ 10 ∷ others) others more (line_first start line others none));
      },
      ends.1,
    )
line_piece Memory s before now ready line none ends others =
    record {
      lines = [];
      others = λ more. line ∷ lines_of (others ++ more);
      cut = λ more. first_cut line others more none;
      events = ends.events;
      text = λ more. ends.text;
    }

-- no bytes
pub no_bytes : (bytes : List ℕ) → length bytes ≡ 0 → bytes ≡ []
no_bytes [] none = refl
no_bytes (byte ∷ bytes) none = absurd (omega (arith, none))

-- both, however that ends
pub line_ran_where : (result : Result (Unit {0}) SimEnd) (s t : Sim) (before now : Option (List ℕ)) (ready left line : List ℕ)
    → NoEnd line → OnOk result (Played (with_text ready s) t line before now left)
    → OnOk result ((others : List ℕ) → Ran (with_text ready s) t before now left (line ++ 10 ∷ others) others)
line_ran_where (Ok u) s t before now ready left line none played = λ others. line_ran s t before now ready left line none played others
line_ran_where (Err how) s t before now ready left line none played = tt

pub line_piece_where : (result : Result (Unit {0}) SimEnd) (s : Sim) (before now : Written) (ready line : List ℕ)
    → NoEnd line → LineEnds result (with_text ready s) line before now
    → (others : List ℕ) → PieceEnds result (with_text ready s) before now (line ++ 10 ∷ others)
line_piece_where (Ok u) s before now ready line none ends others = tt
line_piece_where (Err how) s before now ready line none ends others = line_piece how s before now ready line none ends others

-- no line is served for want of memory
pub piece_flushed : (how : SimEnd) (s : Sim) (before now : Written) (ready waiting : List ℕ)
    → Flushes how before now ready → PieceEnds (Err how) (with_text ready s) before now waiting
piece_flushed how s before now ready waiting flushes =
    flushed how (with_text ready s) s before before now ready waiting waiting (ran_start s before.bytes ready waiting) (omega arith) flushes
