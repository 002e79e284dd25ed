-- Ids whose marks no earlier one has.
use Rattle.std.proofs.Common.{◌≡◌, ℕ, ◌+◌, ◌<◌, List, [], ◌∷◌, ◌∙◌, ap, arith, get_or, inl, inr, length, refl, set, suc, sym, take, zero}
use Rattle.std.specs.Prelude.{Bool, true, false, ◌||◌}
use Rattle.std.specs.List.{list_any}
use Rattle.std.specs.Str.{bytes_eq}
use Rattle.std.proofs.lemmas.Bool.{both_ways, cases_lt, false_from_ne_true}
use Rattle.std.proofs.lemmas.List.{get_or-set_other, get_or-set_same, get_or_default}
use Rattle.std.proofs.lemmas.Slice.Eq.{bytes_eq-Decides}
use Rattle.otp_reason.specs.declared.name.Name.{Name}
use Rattle.otp_reason.specs.Names.{name_bytes}
use Rattle.otp_spec.specs.declared.child.ChildSpec.{ChildSpec}
use Rattle.otp_spec.specs.Lawful.{has_id_of}
use Rattle.otp_spec.specs.Marks.{AreSeen, mark_from, mark_of}

same_mark : (one other : Name) → bytes_eq (name_bytes one) (name_bytes other) ≡ true → mark_of one ≡ mark_of other
unfolding mark_of
same_mark one other e = ap (λ (bytes : List ℕ). mark_from 0 bytes) ((bytes_eq-Decides (name_bytes one) (name_bytes other)).0 e)

-- an id whose mark isn't set is none of those before
none_repeats : (specs : List ChildSpec) (place : ℕ) (spec : ChildSpec) (seen : List Bool) → AreSeen specs place seen → get_or seen (mark_of spec.id) false ≡ false → list_any (has_id_of spec) (take place specs) ≡ false
none_repeats [] zero spec seen are unseen = refl
none_repeats [] (suc place) spec seen are unseen = refl
none_repeats (s ∷ specs) zero spec seen are unseen = refl
none_repeats (s ∷ specs) (suc place) spec seen are unseen =
    let first : has_id_of spec s ≡ false = false_from_ne_true (has_id_of spec s) (λ same. both_ways (get_or seen (mark_of spec.id) false) unseen
    (ap (λ (m : ℕ). get_or seen m false) (sym (same_mark s.id spec.id same)) ∙ are 0 s (omega arith) (omega arith))) in
    ap (λ (b : Bool). b || list_any (has_id_of spec) (take place specs)) first
    ∙ none_repeats specs place spec seen (λ k d lt within. are (suc k) d (omega (arith, lt)) (omega (arith, within))) unseen

-- the same of the one at the place
pub none_repeats_at : (specs : List ChildSpec) (place mark : ℕ) (seen : List Bool) (other : ChildSpec) → mark ≡ mark_of (get_or specs place other).id → AreSeen specs place seen → get_or seen mark false ≡ false
    → list_any (has_id_of (get_or specs place other)) (take place specs) ≡ false
none_repeats_at specs place mark seen other is are unseen = none_repeats specs place (get_or specs place other) seen are (ap (λ (m : ℕ). get_or seen m false) (sym is) ∙ unseen)

-- a mark that is set stays so
stays : (seen : List Bool) (mark other : ℕ) → mark < length seen → get_or seen other false ≡ true → get_or (set seen mark true) other false ≡ true
stays seen mark other within is =
    let all : List Bool = set seen mark true in
    let here : get_or all mark false ≡ true = get_or-set_same seen mark true false within in
    let there : (other ≡ mark → ⊥) → get_or all other false ≡ true = λ differs. get_or-set_other seen mark other true false differs ∙ is in
    elim (cases_lt other mark) [
      | inl below ↦ there (λ e. omega (arith, e, below))
      | inr above ↦ elim (cases_lt mark other) [
        | inl over ↦ there (λ e. omega (arith, e, over))
        | inr least ↦ (let same : other ≡ mark = omega (arith, above, least) in ap (λ (m : ℕ). get_or all m false) same ∙ here)
      ]
    ]

-- and the next one is set
pub seen_on : (specs : List ChildSpec) (place mark : ℕ) (seen : List Bool) (other : ChildSpec) → place < length specs → mark < length seen → mark ≡ mark_of (get_or specs place other).id → AreSeen specs place seen → AreSeen specs (place + 1) (set seen mark true)
seen_on specs place mark seen other inside within is are k d lt few =
    let all : List Bool = set seen mark true in
    elim (cases_lt k place) [
      | inl below ↦ stays seen mark (mark_of (get_or specs k d).id) within (are k d below few)
      | inr above ↦ let here : k ≡ place = omega (arith, lt, above) in
          ap (λ (j : ℕ). get_or all (mark_of (get_or specs j d).id) false) here
          ∙ ap (λ (s : ChildSpec). get_or all (mark_of s.id) false) (get_or_default specs place d other inside)
          ∙ ap (λ (m : ℕ). get_or all m false) (sym is)
          ∙ get_or-set_same seen mark true false within
    ]
