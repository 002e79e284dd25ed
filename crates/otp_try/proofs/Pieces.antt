-- Pieces of a run that come one after another.
use Rattle.std.specs.Prelude.{◌≡◌, ℕ, Bool, Ok, List, [], ◌∷◌, ◌++◌, map, refl}
use Rattle.std.proofs.Common.{◌∙◌, ap, sym, subst, append_assoc, append-nil}
use Rattle.otp_try.specs.Page.{Adds, Did, Leads, Piece, Remark, Said, Undone, pieces_text, remark_text, shown, verdict_text}
use Rattle.otp_try.specs.Lines.{heading_line}
use Rattle.otp_script.specs.Lines.{Saying, saying_in}
use Rattle.otp_try.specs.Page.Remark.{Heading, Verdict}
use Rattle.otp_trial.specs.Played.{Stand, Tells, at_start, fresh, story}
use Rattle.otp_trial.specs.Steps.{TellsTimes}
use Rattle.otp_try.specs.declared.play.Writer.{Writer}
use Rattle.otp_trial.specs.declared.trial.ActionEnd.{ActionEnd}

pub leads-append : (a b c : Stand) (ps qs : List Piece) → Leads a ps b → Leads b qs c → Leads a (ps ++ qs) c
leads-append a b c [] qs first second = subst (λ (s : Stand). Leads s qs c) first second
leads-append a b c (Said r ∷ ps) qs first second = leads-append a b c ps qs first second
leads-append a b c (Did line end ms other ∷ ps) qs (does, rest) second = (does, leads-append other b c ps qs rest second)
leads-append a b c (Undone ms other ∷ ps) qs (made, rest) second = (made, leads-append other b c ps qs rest second)

pub text-append : (a b : Stand) (ps qs : List Piece) → Leads a ps b → pieces_text a (ps ++ qs) ≡ pieces_text a ps ++ pieces_text b qs
text-append a b [] qs first = ap (λ (s : Stand). pieces_text s qs) (sym first)
text-append a b (Said r ∷ ps) qs first =
    ap (λ (text : List ℕ). remark_text r a ++ text) (text-append a b ps qs first)
    ∙ sym (append_assoc (remark_text r a) (pieces_text a ps) (pieces_text b qs))
text-append a b (Did line end ms other ∷ ps) qs (does, rest) =
    ap (λ (text : List ℕ). story ms ++ text) (text-append other b ps qs rest)
    ∙ sym (append_assoc (story ms) (pieces_text other ps) (pieces_text b qs))
text-append a b (Undone ms other ∷ ps) qs (made, rest) = text-append other b ps qs rest

-- what was put on the page first, and then what was put behind it
pub adds-then : (a b c : Stand) (x y z : List ℕ) → Adds a b x y → Adds b c y z → Adds a c x z
adds-then a b c x y z first second = record {
  pieces = first.pieces ++ second.pieces;
  lead = leads-append a b c first.pieces second.pieces first.lead second.lead;
  text = second.text
      ∙ ap (λ (text : List ℕ). text ++ pieces_text b second.pieces) first.text
      ∙ append_assoc x (pieces_text a first.pieces) (pieces_text b second.pieces)
      ∙ ap (λ (text : List ℕ). x ++ text) (sym (text-append a b first.pieces second.pieces first.lead));
}

-- nothing
pub adds_nothing : (a b : Stand) (x y : List ℕ) → b ≡ a → y ≡ x → Adds a b x y
adds_nothing a b x y stands same = record { pieces = []; lead = stands; text = same ∙ sym (append-nil x) }

-- a remark
pub adds_remark : (a b : Stand) (x y : List ℕ) (r : Remark) → b ≡ a → y ≡ x ++ remark_text r a → Adds a b x y
adds_remark a b x y r stands said = record {
  pieces = Said r ∷ [];
  lead = stands;
  text = said ∙ ap (λ (text : List ℕ). x ++ text) (sym (append-nil (remark_text r a)));
}

-- the tree stands as at the beginning, and then moves are made of which nothing is told
pub adds_undone : (a b : Stand) (x y p q : List ℕ) → Tells (at_start a.clock (map fresh a.seats)) b x y → q ≡ p → Adds a b p q
adds_undone a b x y p q (ms, made, told) same =
    record { pieces = Undone ms b ∷ []; lead = (made, refl); text = same ∙ sym (append-nil p) }

-- the same after moves that were told elsewhere
pub undone_by : (a b : Stand) (p : List ℕ) → ((x : List ℕ) × (y : List ℕ) × Tells (at_start a.clock (map fresh a.seats)) b x y) → Adds a b p p
undone_by a b p (x, y, told) = adds_undone a b x y p p told refl

-- a line was done
pub adds_done : (said : Saying) (line : List ℕ) (end : ActionEnd) (a b : Stand) (x y : List ℕ) → saying_in line ≡ Ok said → TellsTimes said end a b x y → Adds a b x y
adds_done said line end a b x y says (ms, does, told) = record {
  pieces = Did line end ms b ∷ [];
  lead = ((said, (says, does)), refl);
  text = told ∙ ap (λ (text : List ℕ). x ++ text) (sym (append-nil (story ms)));
}

-- what was written down from an empty sheet on is put on the page
pub adds_sheet : (a b : Stand) (sheet written page new : List ℕ) → sheet ≡ [] → Adds a b sheet written → new ≡ page ++ written → Adds a b page new
adds_sheet a b sheet written page new empty told put = record {
  pieces = told.pieces;
  lead = told.lead;
  text = put ∙ ap (λ (text : List ℕ). page ++ text) (told.text ∙ ap (λ (text : List ℕ). text ++ pieces_text a told.pieces) empty);
}

-- the heading of a line, then what its supervisors order, then what became of it
pub adds_line : (number k : ℕ) (line : List ℕ) (by : Writer) (is_unknown : Bool) (said : Saying) (end : ActionEnd) (a b : Stand) (w x y z : List ℕ)
    → saying_in line ≡ Ok said → ((has_heading : Bool) × (x ≡ w ++ heading_line has_heading number line)) → TellsTimes said end a b x y → ((is_told : Bool) × (z ≡ y ++ shown is_told (verdict_text by k line is_unknown end)))
    → Adds a b w z
unfolding remark_text
adds_line number k line by is_unknown said end a b w x y z says (has_heading, above) told (is_told, below) =
    adds-then a b b w y z
    (adds-then a a b w x y (adds_remark a a w x (Heading has_heading number line) refl above) (adds_done said line end a b x y says told))
    (adds_remark b b y z (Verdict is_told by k line is_unknown end) refl below)
