-- What playing a line, event by event, does to a run.
use Rattle.std.proofs.Common.{◌≡◌, ℕ, suc, zero, ◌+◌, ◌<◌, ◌≤◌, Bool, true, false, List, [], ◌++◌, Option, None, Err, is_some, subst, ap, sym, ◌∙◌, append_assoc, arith}
use Rattle.std.specs.Prelude.{if◌then◌else◌}
use Rattle.std.specs.Io.KnownBytes.{Appends}
use Rattle.otp_sim.specs.declared.driven.LinesEnd.{LinesEnd}
use Rattle.otp_sim.specs.declared.engine.SimEnd.{SimEnd}
use Rattle.otp_sim.specs.declared.engine.SimEnd.TheVariants.{Done, LineRefused, HistoryFull, InputFailed, OutputFailed, Memory}
use Rattle.otp_sim.specs.Devices.{Begins, AppendsPart, Moves, Written}
use Rattle.otp_sim.specs.Sim.{Sim, begin_line, end_of, followed, next_kind, settled, take_line, went_on}
use Rattle.otp_sim.specs.Runs.{Finishes, Flushes, LastWrites, LineEnds, Played, begun, with_text}
use Rattle.otp_sim.proofs.Settled.{followed_last, none_follows, remaining, remaining_fell, settled_done, settled_went_on, stays}
use Rattle.otp_sim.proofs.Texts.{after, settled_begins, went_on_after}
use Rattle.otp_sim.proofs.Progress.{begins_front, line_part}
use Rattle.otp_sim.proofs.Writes.{appends_none, appends_more}

-- within a line: what is left to happen leads to its end, and so many of its events have happened
pub record Playing (from : Sim) (line : List ℕ) (before now : Option (List ℕ)) (ready : List ℕ) (s : Sim) : Type 0 where
  pub written : List ℕ
  pub appended : Appends before now written
  pub leads : settled (with_text (written ++ ready) s) ≡ take_line line from
  pub events : ℕ
  pub far : with_text (written ++ ready) s ≡ begun (suc events) line from

-- what the line does by itself has happened
pub playing_begun : (from s : Sim) (line : List ℕ) (known : Option (List ℕ)) (ready : List ℕ)
    → with_text ready s ≡ begin_line line from → Playing from line known known ready s
unfolding take_line begun followed
playing_begun from s line known ready step =
    record { written = []; appended = appends_none known; leads = ap settled step; events = zero; far = step }

-- some of what is ready is written
pub playing_moved : (from s : Sim) (line : List ℕ) (before mid now : Option (List ℕ)) (ready left : List ℕ)
    → Playing from line before mid ready s → Moves mid now ready left → Playing from line before now left s
playing_moved from s line before mid now ready left playing moved =
    let same : playing.written ++ ready ≡ (playing.written ++ moved.text) ++ left =
    ap (λ bytes. playing.written ++ bytes) moved.whole ∙ sym (append_assoc playing.written moved.text left) in
    record {
      written = playing.written ++ moved.text;
      appended = appends_more before mid now playing.written moved.text playing.appended moved.appended;
      leads = subst (λ (bytes : List ℕ). settled (with_text bytes s) ≡ take_line line from) same playing.leads;
      events = playing.events;
      far = subst (λ (bytes : List ℕ). with_text bytes s ≡ begun (suc playing.events) line from) same playing.far;
    }

-- another event happens
pub playing_on : (from s t : Sim) (line : List ℕ) (before now : Option (List ℕ)) (ready more : List ℕ)
    → Playing from line before now ready s → with_text more t ≡ went_on (with_text ready s) → Playing from line before now more t
unfolding begun
playing_on from s t line before now ready more playing step =
    let here : with_text (playing.written ++ more) t ≡ went_on (with_text (playing.written ++ ready) s) =
    ap (after playing.written) step ∙ sym (went_on_after playing.written (with_text ready s)) in
    record {
      written = playing.written;
      appended = playing.appended;
      leads = ap settled here ∙ settled_went_on (with_text (playing.written ++ ready) s) ∙ playing.leads;
      events = suc playing.events;
      far = here ∙ ap went_on playing.far ∙ sym (followed_last playing.events (begin_line line from));
    }

-- where no event happened nothing is left to happen
pub over_after : (s t : Sim) (ready more : List ℕ) (happened : Bool) → happened ≡ is_some (next_kind s)
    → with_text more t ≡ went_on (with_text ready s) → happened ≡ false → next_kind t ≡ None
unfolding next_kind
over_after s t ready more happened is step none =
    let nothing : next_kind (with_text ready s) ≡ None = none_follows (with_text ready s) (sym is ∙ none) in
    ap next_kind step ∙ ap next_kind (stays (with_text ready s) nothing) ∙ nothing

-- and where one did less can still happen
pub less_remains : (s t : Sim) (ready more : List ℕ) (happened : Bool) → happened ≡ is_some (next_kind s)
    → with_text more t ≡ went_on (with_text ready s) → (if happened then remaining t + 1 else 0) < remaining s + 1
unfolding next_kind
less_remains s t ready more true is step =
    let same : remaining t ≡ remaining (went_on (with_text ready s)) = ap remaining step in
    let fell : remaining (went_on (with_text ready s)) < remaining s = remaining_fell (with_text ready s) (sym is) in
    omega (arith, same, fell)
less_remains s t ready more false is step = omega arith

-- nothing is left to happen
pub playing_done : (from s : Sim) (line : List ℕ) (before now : Option (List ℕ)) (ready : List ℕ)
    → Playing from line before now ready s → next_kind s ≡ None → Played from s line before now ready
unfolding next_kind
playing_done from s line before now ready playing none =
    record {
      written = playing.written;
      appended = playing.appended;
      same = sym (settled_done (with_text (playing.written ++ ready) s) none) ∙ playing.leads;
    }

-- the writer fails
pub playing_part : (from s : Sim) (line : List ℕ) (before mid now : Option (List ℕ)) (ready : List ℕ)
    → Playing from line before mid ready s → AppendsPart mid now ready → AppendsPart before now (take_line line from).text
playing_part from s line before mid now ready playing part =
    let whole : Begins (playing.written ++ ready) (take_line line from).text =
    subst (λ (t : Sim). Begins (playing.written ++ ready) t.text) playing.leads (settled_begins (with_text (playing.written ++ ready) s)) in
    let split : playing.written ++ ready ≡ (playing.written ++ part.front) ++ part.begins.rest =
    ap (λ bytes. playing.written ++ bytes) part.begins.same ∙ sym (append_assoc playing.written part.front part.begins.rest) in
    record {
      front = playing.written ++ part.front;
      appended = appends_more before mid now playing.written part.front playing.appended part.appended;
      begins = begins_front (playing.written ++ part.front) part.begins.rest _ (rw (← split) whole);
    }

-- memory is refused, and what is ready is written
pub playing_flushed : (how : SimEnd) (from s : Sim) (line : List ℕ) (before mid now : Written) (ready : List ℕ)
    → Playing from line before.bytes mid.bytes ready s → before.failures ≤ mid.failures → Flushes how mid now ready
    → LineEnds (Err how) from line before now
playing_flushed Done from s line before mid now ready playing later flushes = flushes
playing_flushed (LineRefused number fault) from s line before mid now ready playing later flushes = flushes
playing_flushed HistoryFull from s line before mid now ready playing later flushes = flushes
playing_flushed InputFailed from s line before mid now ready playing later flushes = flushes
playing_flushed OutputFailed from s line before mid now ready playing later flushes =
    (playing_part from s line before.bytes mid.bytes now.bytes ready playing flushes.0, omega (arith, flushes.1))
playing_flushed Memory from s line before mid now ready playing later flushes =
    record {
      events = suc playing.events;
      text = subst (λ (t : Sim). Appends before.bytes now.bytes t.text) playing.far
          (appends_more before.bytes mid.bytes now.bytes playing.written ready playing.appended flushes);
    }

-- memory is refused before anything of the line has happened
pub line_flushed : (how : SimEnd) (line : List ℕ) (s : Sim) (before now : Written)
    → Flushes how before now s.text → LineEnds (Err how) s line before now
unfolding begun
line_flushed Done line s before now flushes = flushes
line_flushed (LineRefused number fault) line s before now flushes = flushes
line_flushed HistoryFull line s before now flushes = flushes
line_flushed InputFailed line s before now flushes = flushes
line_flushed OutputFailed line s before now flushes = (line_part line s before.bytes now.bytes flushes.0, flushes.1)
line_flushed Memory line s before now flushes = record { events = zero; text = flushes }

-- a last line was played, and what is ready is written
played_text : (from to : Sim) (line : List ℕ) (before mid now : Option (List ℕ)) (ready : List ℕ)
    → Played from to line before mid ready → Appends mid now ready → Appends before now (take_line line from).text
played_text from to line before mid now ready played more =
    subst (λ (t : Sim). Appends before now t.text) played.same (appends_more before mid now played.written ready played.appended more)

played_end : (from to : Sim) (line : List ℕ) (before now : Option (List ℕ)) (ready : List ℕ) (reason : Option LinesEnd)
    → Played from to line before now ready → reason ≡ to.end → end_of reason ≡ end_of (take_line line from).end
played_end from to line before now ready reason played why = ap end_of why ∙ ap (λ (t : Sim). end_of t.end) played.same

pub last_finished : (how : SimEnd) (from to : Sim) (line : List ℕ) (before mid now : Written) (ready : List ℕ) (reason : Option LinesEnd)
    → Played from to line before.bytes mid.bytes ready → reason ≡ to.end → before.failures ≤ mid.failures
    → Finishes how reason mid now ready → LastWrites how line from before now
last_finished Done from to line before mid now ready reason played why later ends =
    (played_text from to line before.bytes mid.bytes now.bytes ready played ends.0, ends.1 ∙ played_end from to line before.bytes mid.bytes ready reason played why)
last_finished (LineRefused number fault) from to line before mid now ready reason played why later ends =
    (played_text from to line before.bytes mid.bytes now.bytes ready played ends.0, ends.1 ∙ played_end from to line before.bytes mid.bytes ready reason played why)
last_finished HistoryFull from to line before mid now ready reason played why later ends =
    (played_text from to line before.bytes mid.bytes now.bytes ready played ends.0, ends.1 ∙ played_end from to line before.bytes mid.bytes ready reason played why)
last_finished InputFailed from to line before mid now ready reason played why later ends = absurd ends
last_finished OutputFailed from to line before mid now ready reason played why later ends =
    let same : played.written ++ ready ≡ (take_line line from).text = ap (λ (t : Sim). t.text) played.same in
    let part = ends.0 in
    let split : played.written ++ ready ≡ (played.written ++ part.front) ++ part.begins.rest =
    ap (λ bytes. played.written ++ bytes) part.begins.same ∙ sym (append_assoc played.written part.front part.begins.rest) in (
      record {
        front = played.written ++ part.front;
        appended = appends_more before.bytes mid.bytes now.bytes played.written part.front played.appended part.appended;
        begins = record { rest = part.begins.rest; same = sym same ∙ split };
      },
      omega (arith, ends.1),
    )
last_finished Memory from to line before mid now ready reason played why later ends = absurd ends
