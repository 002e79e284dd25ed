-- What is on the page and what is written, one after another.
use Rattle.std.specs.Prelude.{◌≡◌, ℕ, Bool, true, List, [], ◌∷◌, ◌++◌, Option, Result, Ok, Err, OnOk, OnErr, refl}
use Rattle.std.proofs.Common.{◌∙◌, ap, sym, subst, append_assoc, append-nil}
use Rattle.std.proofs.KnownBytes.{Appends-nil, Appends-trans}
use Rattle.std.specs.Io.KnownBytes.{Appends}
use Rattle.otp_file.specs.Trees.{Tree}
use Rattle.otp_rules.specs.declared.event.Kind.TheVariants as kind
use Rattle.otp_sim.specs.Devices.{AppendsPart}
use Rattle.otp_text.specs.declared.timeline.moment.Moment.{Moment}
use Rattle.otp_try.specs.Page.{Adds, Piece, Remark, pieces_text, remark_text}
use Rattle.otp_try.specs.Summaries.{IsSummary}
use Rattle.otp_try.specs.Sketched.{drawing}
use Rattle.otp_try.specs.Page.Remark.{Picture, Status, Summary}
use Rattle.otp_try.specs.Pages.{AddsTo, Closing, Concluded, Ended, IsHalt, IsWhole, Played, Ran, StopsSo, SumsUp, Unopened, WritesOut, Wrote, WrotePart, end_of}
use Rattle.otp_trial.specs.Played.{IsPlanted, Seated, Stand, TellsFirst, at_start, now_of}
use Rattle.otp_trial.specs.declared.clock.Clock.{Clock}
use Rattle.otp_try.specs.Prompt.{standings_text}
use Rattle.otp_try.specs.declared.early.EarlyEnd.{EarlyEnd}
use Rattle.otp_try.specs.declared.early.EarlyEnd.TheVariants.{LineRefused, LineMissed, HistoryFull, InputFailed, OutputFailed, OutOfMemory}
use Rattle.otp_try.specs.declared.play.TryEnd.{TryEnd}
use Rattle.otp_try.specs.declared.play.TryEnd.TheVariants as try
use Rattle.otp_try.proofs.Pieces.{adds-then, adds_nothing, adds_remark, adds_sheet, leads-append, text-append}

-- ---- the page

-- some pieces, and then what became of the next
pub adds_to-then : {T E : Type 0} (r : Result T E) (a b c : Stand) (x y z : List ℕ) → Adds a b x y → AddsTo r b c y z
    → AddsTo r a c x z
adds_to-then (Ok _) a b c x y z first second = adds-then a b c x y z first second
adds_to-then (Err _) a b c x y z first (stood, second) = (stood, adds-then a b stood x y z first second)

-- a remark was written down
pub some_remark : {T E : Type 0} (r : Result T E) (a : Stand) (x y text : List ℕ) (said : Remark) → text ≡ remark_text said a → OnOk r (y ≡ x ++ text)
    → OnOk r ((remark : Remark) × (y ≡ x ++ remark_text remark a))
some_remark (Ok _) a x y text said is put = (said, put ∙ ap (λ (t : List ℕ). x ++ t) is)
some_remark (Err _) a x y text said is put = tt

-- how the supervisors stand is a remark
pub status_remark : {T E : Type 0} (r : Result T E) (a : Stand) (x y : List ℕ)
    → OnOk r ((others : List Bool) × (y ≡ x ++ standings_text (now_of a) a.seats (true ∷ others))) → OnOk r ((remark : Remark) × (y ≡ x ++ remark_text remark a))
unfolding remark_text
status_remark (Ok _) a x y (others, put) = (Status (true ∷ others), put)
status_remark (Err _) a x y put = tt

-- a text was put on the page, or nothing
pub puts_remark : {T E : Type 0} (r : Result T E) (a b : Stand) (x y text : List ℕ) (said : Remark) → b ≡ a → text ≡ remark_text said a
    → OnOk r (y ≡ x ++ text) → OnErr r (y ≡ x) → AddsTo r a b x y
puts_remark (Ok _) a b x y text said stands is ok err = adds_remark a b x y said stands (ok ∙ ap (λ (t : List ℕ). x ++ t) is)
puts_remark (Err _) a b x y text said stands is ok err = (a, adds_nothing a a x y refl err)

-- nothing was put on the page, and then what became of the next
pub adds_to-after : {T E : Type 0} (r : Result T E) (a b c : Stand) (x y z : List ℕ) → b ≡ a → y ≡ x → AddsTo r b c y z
    → AddsTo r a c x z
adds_to-after r a b c x y z stands same next = adds_to-then r a b c x y z (adds_nothing a b x y stands same) next

-- whatever the answer, all was put on the page
pub adds_any : {T E : Type 0} (r : Result T E) (a b : Stand) (x y : List ℕ) → Adds a b x y → AddsTo r a b x y
adds_any (Ok _) a b x y added = added
adds_any (Err _) a b x y added = (b, added)

-- a picture was put on the page
pub adds_picture : (a : Stand) (x y text : List ℕ) (is_coloured : Bool) (seats : List Seated) (moments : List Moment)
    → text ≡ drawing is_coloured seats moments → y ≡ x ++ text → Adds a a x y
unfolding remark_text
adds_picture a x y text is_coloured seats moments is put =
    adds_remark a a x y (Picture is_coloured seats moments) refl (put ∙ ap (λ (t : List ℕ). x ++ t) is)

-- or nothing
pub puts_picture : {T E : Type 0} (r : Result T E) (a : Stand) (x y text : List ℕ) (is_coloured : Bool) (seats : List Seated) (moments : List Moment)
    → text ≡ drawing is_coloured seats moments → OnOk r (y ≡ x ++ text) → OnErr r (y ≡ x) → AddsTo r a a x y
puts_picture (Ok _) a x y text is_coloured seats moments is ok err = adds_picture a x y text is_coloured seats moments is ok
puts_picture (Err _) a x y text is_coloured seats moments is ok err = (a, adds_nothing a a x y refl err)

-- what was written down on a sheet was put on the page
pub adds_told : (a b c : Stand) (sheet written page mid text new : List ℕ) → sheet ≡ [] → Adds a b sheet written → mid ≡ page → text ≡ written
    → new ≡ mid ++ text → c ≡ b → Adds a c page new
adds_told a b c sheet written page mid text new empty told kept is put stands =
    subst (λ (s : Stand). Adds a s page new) (sym stands)
    (adds_sheet a b sheet written page new empty told
    (put ∙ ap (λ (t : List ℕ). t ++ text) kept ∙ ap (λ (t : List ℕ). page ++ t) is))

-- some pieces, and then what became of the next, in which the supervisors stood still
pub adds_still : {T E : Type 0} (r : Result T E) (a b c : Stand) (x y z : List ℕ) → Adds a b x y → c ≡ b → AddsTo r b b y z
    → AddsTo r a c x z
adds_still r a b c x y z first stands next =
    subst (λ (s : Stand). AddsTo r a s x z) (sym stands) (adds_to-then r a b b x y z first next)

-- a sheet was put on the page, or nothing
pub puts_told : {T E : Type 0} (r : Result T E) (a b c : Stand) (sheet written page mid text new : List ℕ) → sheet ≡ [] → Adds a b sheet written
    → mid ≡ page → text ≡ written → OnOk r (new ≡ mid ++ text) → OnErr r (new ≡ mid) → c ≡ b → AddsTo r a c page new
puts_told (Ok _) a b c sheet written page mid text new empty told kept is ok err stands =
    adds_told a b c sheet written page mid text new empty told kept is ok stands
puts_told (Err _) a b c sheet written page mid text new empty told kept is ok err stands = (a, adds_nothing a a page new refl (err ∙ kept))

-- ---- what is written

-- pieces were put on the page, and nothing was written
pub wrote_adds : (a b : Stand) (x y : List ℕ) (now : Option (List ℕ)) → Adds a b x y → Wrote a b x y now now
wrote_adds a b x y now added = record {
  pieces = added.pieces;
  lead = added.lead;
  written = [];
  appended = Appends-nil now;
  text = added.text;
}

-- the page was written
pub wrote_page : (a b : Stand) (page text left : List ℕ) (before now : Option (List ℕ)) → b ≡ a → text ≡ page → Appends before now text → left ≡ []
    → Wrote a b page left before now
wrote_page a b page text left before now stands same appended empty = record {
  pieces = [];
  lead = stands;
  written = text;
  appended = appended;
  text = ap (λ (t : List ℕ). text ++ t) empty ∙ ap (λ (t : List ℕ). t ++ []) same;
}

pub wrote-then : (a b c : Stand) (p q r : List ℕ) (x y z : Option (List ℕ)) → Wrote a b p q x y → Wrote b c q r y z → Wrote a c p r x z
wrote-then a b c p q r x y z first second = record {
  pieces = first.pieces ++ second.pieces;
  lead = leads-append a b c first.pieces second.pieces first.lead second.lead;
  written = first.written ++ second.written;
  appended = Appends-trans x y z first.written second.written first.appended second.appended;
  text = append_assoc first.written second.written r
      ∙ ap (λ (t : List ℕ). first.written ++ t) second.text
      ∙ sym (append_assoc first.written q (pieces_text b second.pieces))
      ∙ ap (λ (t : List ℕ). t ++ pieces_text b second.pieces) first.text
      ∙ append_assoc p (pieces_text a first.pieces) (pieces_text b second.pieces)
      ∙ ap (λ (t : List ℕ). p ++ t) (sym (text-append a b first.pieces second.pieces first.lead));
}

-- some was written, and the rest is left
pub part_wrote : (a b : Stand) (p q : List ℕ) (x y : Option (List ℕ)) → Wrote a b p q x y → WrotePart a p x y
part_wrote a b p q x y wrote = record {
  pieces = wrote.pieces;
  stood = b;
  lead = wrote.lead;
  part = record { front = wrote.written; appended = wrote.appended; begins = record { rest = q; same = sym wrote.text } };
}

-- of the page a beginning was written
pub part_page : (a : Stand) (page text : List ℕ) (x y : Option (List ℕ)) → text ≡ page → AppendsPart x y text → WrotePart a page x y
part_page a page text x y same part = record {
  pieces = [];
  stood = a;
  lead = refl;
  part = subst (λ (t : List ℕ). AppendsPart x y t) (same ∙ sym (append-nil page)) part;
}

pub part-then : (a b : Stand) (p q : List ℕ) (x y z : Option (List ℕ)) → Wrote a b p q x y → WrotePart b q y z → WrotePart a p x z
part-then a b p q x y z first second =
    let ps : List Piece = first.pieces in
    let qs : List Piece = second.pieces in
    let more : List ℕ = pieces_text b qs in
    let front : List ℕ = second.part.front in
    record {
      pieces = ps ++ qs;
      stood = second.stood;
      lead = leads-append a b second.stood ps qs first.lead second.lead;
      part = record {
        front = first.written ++ front;
        appended = Appends-trans x y z first.written front first.appended second.part.appended;
        begins = record {
          rest = second.part.begins.rest;
          same = ap (λ (t : List ℕ). p ++ t) (text-append a b ps qs first.lead)
              ∙ sym (append_assoc p (pieces_text a ps) more)
              ∙ ap (λ (t : List ℕ). t ++ more) (sym first.text)
              ∙ append_assoc first.written q more
              ∙ ap (λ (t : List ℕ). first.written ++ t) second.part.begins.same
              ∙ sym (append_assoc first.written front second.part.begins.rest);
        };
      };
    }

-- whatever the end, all pieces so far are written or on the page
pub stops : (end : EarlyEnd) (a b : Stand) (p q : List ℕ) (x y : Option (List ℕ)) → Wrote a b p q x y → StopsSo end a p q x y
stops (LineRefused _ _) a b p q x y wrote = (b, wrote)
stops (LineMissed _ _ _) a b p q x y wrote = (b, wrote)
stops HistoryFull a b p q x y wrote = (b, wrote)
stops InputFailed a b p q x y wrote = (b, wrote)
stops OutputFailed a b p q x y wrote = part_wrote a b p q x y wrote
stops OutOfMemory a b p q x y wrote = (b, wrote)

some_then : (a b : Stand) (p q r : List ℕ) (x y z : Option (List ℕ)) → Wrote a b p q x y
    → ((stood : Stand) × Wrote b stood q r y z) → (stood : Stand) × Wrote a stood p r x z
some_then a b p q r x y z first (stood, second) = (stood, wrote-then a b stood p q r x y z first second)

pub stops-then : (end : EarlyEnd) (a b : Stand) (p q r : List ℕ) (x y z : Option (List ℕ)) → Wrote a b p q x y → StopsSo end b q r y z
    → StopsSo end a p r x z
stops-then (LineRefused _ _) a b p q r x y z first second = some_then a b p q r x y z first second
stops-then (LineMissed _ _ _) a b p q r x y z first second = some_then a b p q r x y z first second
stops-then HistoryFull a b p q r x y z first second = some_then a b p q r x y z first second
stops-then InputFailed a b p q r x y z first second = some_then a b p q r x y z first second
stops-then OutputFailed a b p q r x y z first second = part-then a b p q x y z first second
stops-then OutOfMemory a b p q r x y z first second = some_then a b p q r x y z first second

pub ran-then : {T : Type 0} (r : Result T EarlyEnd) (a b c : Stand) (p q s : List ℕ) (x y z : Option (List ℕ)) → Wrote a b p q x y
    → Ran r b c q s y z → Ran r a c p s x z
ran-then (Ok _) a b c p q s x y z first second = wrote-then a b c p q s x y z first second
ran-then (Err end) a b c p q s x y z first second = stops-then end a b p q s x y z first second

-- what is put on the page is not written yet
pub ran_adds : {T : Type 0} (r : Result T EarlyEnd) (a b : Stand) (p q : List ℕ) (now : Option (List ℕ)) → AddsTo r a b p q
    → Ran r a b p q now now
ran_adds (Ok _) a b p q now added = wrote_adds a b p q now added
ran_adds (Err end) a b p q now (stood, added) = stops end a stood p q now now (wrote_adds a stood p q now added)

-- whatever became of the next: it put pieces on the page, and then a beginning of the page was written
pub part_last : {T E : Type 0} (r : Result T E) (a : Stand) (p q : List ℕ) (x y : Option (List ℕ)) → AddsTo r a a p q
    → ((seats : Stand) → WrotePart seats q x y) → WrotePart a p x y
part_last (Ok _) a p q x y added rest = part-then a a p q x x y (wrote_adds a a p q x added) (rest a)
part_last (Err _) a p q x y (stood, added) rest = part-then a stood p q x x y (wrote_adds a stood p q x added) (rest stood)

-- a run that ended early is said to have ended so
pub ended_early : (end : EarlyEnd) (a : Stand) (p : List ℕ) (x y : Option (List ℕ)) → StopsSo end a p [] x y → Ended (end_of end) a p x y
unfolding end_of
ended_early (LineRefused _ _) a p x y stopped = stopped
ended_early (LineMissed _ _ _) a p x y stopped = stopped
ended_early HistoryFull a p x y stopped = stopped
ended_early InputFailed a p x y stopped = stopped
ended_early OutputFailed a p x y stopped = stopped
ended_early OutOfMemory a p x y stopped = stopped

-- or all of it
pub ends_last : {T E : Type 0} (r : Result T E) (end : EarlyEnd) (a : Stand) (p q left : List ℕ) (x y : Option (List ℕ)) → AddsTo r a a p q
    → ((seats : Stand) → Wrote seats seats q left x y) → left ≡ [] → Ended (end_of end) a p x y
ends_last (Ok _) end a p q left x y added rest empty =
    let all : Wrote a a p left x y = wrote-then a a a p q left x x y (wrote_adds a a p q x added) (rest a) in
    ended_early end a p x y (stops end a a p [] x y (subst (λ (t : List ℕ). Wrote a a p t x y) empty all))
ends_last (Err _) end a p q left x y (stood, added) rest empty =
    let all : Wrote a stood p left x y = wrote-then a stood stood p q left x x y (wrote_adds a stood p q x added) (rest stood) in
    ended_early end a p x y (stops end a stood p [] x y (subst (λ (t : List ℕ). Wrote a stood p t x y) empty all))

-- a beginning was written, however it ended
pub part_stops : (end : EarlyEnd) (a : Stand) (p q : List ℕ) (x y : Option (List ℕ)) → StopsSo end a p q x y → WrotePart a p x y
part_stops (LineRefused _ _) a p q x y (stood, wrote) = part_wrote a stood p q x y wrote
part_stops (LineMissed _ _ _) a p q x y (stood, wrote) = part_wrote a stood p q x y wrote
part_stops HistoryFull a p q x y (stood, wrote) = part_wrote a stood p q x y wrote
part_stops InputFailed a p q x y (stood, wrote) = part_wrote a stood p q x y wrote
part_stops OutputFailed a p q x y part = part
part_stops OutOfMemory a p q x y (stood, wrote) = part_wrote a stood p q x y wrote

-- all of a run so far, and then its end
pub concluded-then : (a b : Stand) (p q : List ℕ) (x y z : Option (List ℕ)) → Wrote a b p q x y → Concluded b q y z → Concluded a p x z
concluded-then a b p q x y z first second =
    let ps : List Piece = first.pieces in
    let qs : List Piece = second.pieces in
    let more : List ℕ = pieces_text b qs in
    record {
      pieces = ps ++ qs;
      stood = second.stood;
      lead = leads-append a b second.stood ps qs first.lead second.lead;
      summary = second.summary;
      sums = second.sums;
      written = first.written ++ second.written;
      appended = Appends-trans x y z first.written second.written first.appended second.appended;
      text = ap (λ (t : List ℕ). first.written ++ t) second.text
          ∙ sym (append_assoc first.written (q ++ more) second.summary)
          ∙ ap (λ (t : List ℕ). t ++ second.summary) (sym (append_assoc first.written q more)
          ∙ ap (λ (t : List ℕ). t ++ more) first.text
          ∙ append_assoc p (pieces_text a ps) more
          ∙ ap (λ (t : List ℕ). p ++ t) (sym (text-append a b ps qs first.lead)));
    }

pub ended-then : (end : TryEnd) (a b : Stand) (p q : List ℕ) (x y z : Option (List ℕ)) → Wrote a b p q x y → Ended end b q y z
    → Ended end a p x z
ended-then try.Done a b p q x y z first second = concluded-then a b p q x y z first second
ended-then (try.ExpectationFailed _) a b p q x y z first second = concluded-then a b p q x y z first second
ended-then (try.LeftOut _ _ _) a b p q x y z first second = concluded-then a b p q x y z first second
ended-then try.NothingPlayed a b p q x y z first second = concluded-then a b p q x y z first second
ended-then (try.LineRefused _ _) a b p q x y z first second = some_then a b p q [] x y z first second
ended-then (try.LineMissed _ _ _) a b p q x y z first second = some_then a b p q [] x y z first second
ended-then try.HistoryFull a b p q x y z first second = some_then a b p q [] x y z first second
ended-then try.InputFailed a b p q x y z first second = some_then a b p q [] x y z first second
ended-then try.OutputFailed a b p q x y z first second = part-then a b p q x y z first second
ended-then try.OutOfMemory a b p q x y z first second = some_then a b p q [] x y z first second

-- a run that ended early, but not since the writer failed, and then its end
pub ends_early : (end : EarlyEnd) (said : TryEnd) (a : Stand) (p q : List ℕ) (x y z : Option (List ℕ)) → (end ≡ OutputFailed → ⊥)
    → StopsSo end a p q x y → ((seats : Stand) → Ended said seats q y z) → Ended said a p x z
ends_early (LineRefused _ _) said a p q x y z other (stood, wrote) rest = ended-then said a stood p q x y z wrote (rest stood)
ends_early (LineMissed _ _ _) said a p q x y z other (stood, wrote) rest = ended-then said a stood p q x y z wrote (rest stood)
ends_early HistoryFull said a p q x y z other (stood, wrote) rest = ended-then said a stood p q x y z wrote (rest stood)
ends_early InputFailed said a p q x y z other (stood, wrote) rest = ended-then said a stood p q x y z wrote (rest stood)
ends_early OutputFailed said a p q x y z other part rest = absurd (other refl)
ends_early OutOfMemory said a p q x y z other (stood, wrote) rest = ended-then said a stood p q x y z wrote (rest stood)

pub stops_adds : (end : EarlyEnd) (a b : Stand) (p q : List ℕ) (now : Option (List ℕ)) → ((stood : Stand) × Adds a stood p q)
    → StopsSo end a p q now now
stops_adds end a b p q now (stood, added) = stops end a stood p q now now (wrote_adds a stood p q now added)

-- the same of what is written
pub still_ran : {T : Type 0} (r : Result T EarlyEnd) (a b c : Stand) (p q s : List ℕ) (x y z : Option (List ℕ)) → Wrote a b p q x y
    → c ≡ b → Ran r b b q s y z → Ran r a c p s x z
still_ran r a b c p q s x y z first stands next =
    subst (λ (seats : Stand). Ran r a seats p s x z) (sym stands) (ran-then r a b b p q s x y z first next)

-- ---- the end of a run that was played to its end

pub closing : (a : Stand) (x y summary : List ℕ) → IsSummary a summary → y ≡ x ++ summary → Closing a x y
closing a x y summary sums put = record { middle = x; adds = adds_nothing a a x x refl refl; summary = summary; sums = sums; text = put }

-- a summary is a remark
summary_adds : (a : Stand) (x y summary : List ℕ) → IsSummary a summary → y ≡ x ++ summary → Adds a a x y
unfolding remark_text
summary_adds a x y summary (is_quiet, is_played, others, plans, inits, hanging, is) put =
    adds_remark a a x y (Summary is_quiet is_played (true ∷ others) plans inits hanging) refl (put ∙ ap (λ (t : List ℕ). x ++ t) is)

pub closing_adds : (a : Stand) (x y : List ℕ) → Closing a x y → Adds a a x y
closing_adds a x y closed =
    adds-then a a a x closed.middle y closed.adds (summary_adds a closed.middle y closed.summary closed.sums closed.text)

-- the supervisors are summed up, whatever is made of it
pub sums_any : {T E : Type 0} (r : Result T E) (a : Stand) (x y : List ℕ) → Closing a x y → SumsUp r a x y
sums_any (Ok _) a x y closed = closed
sums_any (Err _) a x y closed = (a, closing_adds a x y closed)

-- some pieces without a move, and then the sum
pub sums-then : {T E : Type 0} (r : Result T E) (a b : Stand) (x y z : List ℕ) → Adds a a x y → b ≡ a → SumsUp r b y z → SumsUp r a x z
sums-then (Ok _) a b x y z first stands closed =
    let same : Closing a y z = subst (λ (s : Stand). Closing s y z) stands closed in
    record { middle = same.middle; adds = adds-then a a a x y same.middle first same.adds; summary = same.summary; sums = same.sums; text = same.text }
sums-then (Err _) a b x y z first stands (stood, rest) =
    (stood, adds-then a a stood x y z first (subst (λ (s : Stand). Adds s stood y z) stands rest))

-- all that is left of a run was written
concludes_all : (a b : Stand) (p q r : List ℕ) (x y z : Option (List ℕ)) → Wrote a b p q x y → Closing b q r → Appends y z r → Concluded a p x z
concludes_all a b p q r x y z wrote closed appended =
    let all : Wrote a b p closed.middle x y = wrote-then a b b p q closed.middle x y y wrote (wrote_adds b b q closed.middle y closed.adds) in
    record {
      pieces = all.pieces;
      stood = b;
      lead = all.lead;
      summary = closed.summary;
      sums = closed.sums;
      written = all.written ++ r;
      appended = Appends-trans x y z all.written r all.appended appended;
      text = ap (λ (t : List ℕ). all.written ++ t) closed.text
          ∙ sym (append_assoc all.written closed.middle closed.summary)
          ∙ ap (λ (t : List ℕ). t ++ closed.summary) all.text;
    }

-- all of the rest was written
pub writes_whole : (end : TryEnd) (text : List ℕ) (before now : Option (List ℕ)) → IsWhole end → Appends before now text → WritesOut end text before now
writes_whole try.Done text before now whole appended = appended
writes_whole (try.ExpectationFailed _) text before now whole appended = appended
writes_whole (try.LeftOut _ _ _) text before now whole appended = appended
writes_whole try.NothingPlayed text before now whole appended = appended
writes_whole (try.LineRefused _ _) text before now whole appended = elim whole [ ]
writes_whole (try.LineMissed _ _ _) text before now whole appended = elim whole [ ]
writes_whole try.HistoryFull text before now whole appended = elim whole [ ]
writes_whole try.InputFailed text before now whole appended = elim whole [ ]
writes_whole try.OutputFailed text before now whole appended = elim whole [ ]
writes_whole try.OutOfMemory text before now whole appended = elim whole [ ]

-- all lines were played, and the rest is written
pub concludes : (end : TryEnd) (a b : Stand) (p q r : List ℕ) (x y z : Option (List ℕ)) → Wrote a b p q x y → Closing b q r
    → WritesOut end r y z → Ended end a p x z
concludes try.Done a b p q r x y z wrote closed appended = concludes_all a b p q r x y z wrote closed appended
concludes (try.ExpectationFailed _) a b p q r x y z wrote closed appended = concludes_all a b p q r x y z wrote closed appended
concludes (try.LeftOut _ _ _) a b p q r x y z wrote closed appended = concludes_all a b p q r x y z wrote closed appended
concludes try.NothingPlayed a b p q r x y z wrote closed appended = concludes_all a b p q r x y z wrote closed appended
concludes try.OutputFailed a b p q r x y z wrote closed part =
    let all : Wrote a b p r x y = wrote-then a b b p q r x y y wrote (wrote_adds b b q r y (closing_adds b q r closed)) in
    part-then a b p r x y z all (part_page b r r y z refl part)
concludes (try.LineRefused _ _) a b p q r x y z wrote closed none = elim none [ ]
concludes (try.LineMissed _ _ _) a b p q r x y z wrote closed none = elim none [ ]
concludes try.HistoryFull a b p q r x y z wrote closed none = elim none [ ]
concludes try.InputFailed a b p q r x y z wrote closed none = elim none [ ]
concludes try.OutOfMemory a b p q r x y z wrote closed none = elim none [ ]

-- or they could not be summed up
pub concludes_early : (end : EarlyEnd) (a b : Stand) (p q r : List ℕ) (x y : Option (List ℕ)) → Wrote a b p q x y
    → ((stood : Stand) × Adds b stood q r) → StopsSo end a p r x y
concludes_early end a b p q r x y wrote (stood, added) =
    stops end a stood p r x y (wrote-then a b stood p q r x y y wrote (wrote_adds b stood q r y added))

-- ---- the beginning

-- the root could not be opened: there was no memory, or its history was full
of_halt : (end : EarlyEnd) (now : Option (List ℕ)) → IsHalt end → Unopened (end_of end) now now
unfolding end_of
of_halt HistoryFull now halted = refl
of_halt OutOfMemory now halted = refl
of_halt (LineRefused _ _) now halted = halted
of_halt (LineMissed _ _ _) now halted = halted
of_halt InputFailed now halted = halted
of_halt OutputFailed now halted = halted

pub unopened : (end : EarlyEnd) (said : TryEnd) (now : Option (List ℕ)) → IsHalt end → said ≡ end_of end → Unopened said now now
unopened end said now halted is = subst (λ (e : TryEnd). Unopened e now now) (sym is) (of_halt end now halted)

-- the root was opened on an empty sheet, which is the page; and then came the rest
pub opens_at : (end : TryEnd) (tree : Tree) (tells : Bool) (clock : Clock) (opened : Stand) (sheet told : List ℕ) (before now : Option (List ℕ)) → sheet ≡ []
    → ((planted : List Seated) × IsPlanted tells tree planted × TellsFirst 0 (kind.Opened 0) (at_start clock planted) opened sheet told)
    → Ended end opened told before now → Played end tree tells before now
opens_at end tree tells clock opened sheet told before now empty (planted, is, opens) ended = record {
  planted = planted;
  is = is;
  opened = opened;
  opening = told;
  clock = clock;
  opens = subst (λ (text : List ℕ). TellsFirst 0 (kind.Opened 0) (at_start clock planted) opened text told) empty opens;
  ended = ended;
}
