use Rattle.std.proofs.Common.{◌≡◌, ◌-◌, ◌<◌, ◌∙◌, ℕ, List, [], ap, arith, get_or, length, subst, sym}
use Rattle.otp_reason.specs.Texts.{text_with}
use Rattle.otp_machine.proofs.Histories.{last_of}
use Rattle.otp_machine.proofs.stores.history.put_term.Goals as goal

pub last_place-requires-clause-some : goal.last_place-requires-clause-some
last_place-requires-clause-some c = subst (λ (xs : List (List ℕ)). 0 < length xs) (sym c.deref.ensures.value) (last_of _ _ _ c.put_block.ensures.terms).0

pub returns-clause-term : goal.returns-clause-term
returns-clause-term c =
    let place : c.last_place.result ≡ length c.put_block.new.terms.items - 1 = c.last_place.ensures ∙ ap (λ (xs : List (List ℕ)). length xs - 1) c.deref.ensures.value in
    ap (λ (n : ℕ). text_with (get_or c.put_block.new.terms.items n []) c.parts-shown.result.1) place
    ∙ ap (λ (bytes : List ℕ). text_with bytes c.parts-shown.result.1) (last_of _ _ _ c.put_block.ensures.terms).1
    ∙ c.parts-shown.ensures.text

pub returns-clause-within : goal.returns-clause-within
returns-clause-within c =
    let place : c.last_place.result ≡ length c.put_block.new.terms.items - 1 = c.last_place.ensures ∙ ap (λ (xs : List (List ℕ)). length xs - 1) c.deref.ensures.value in
    let some : 0 < length c.put_block.new.terms.items = (last_of _ _ _ c.put_block.ensures.terms).0 in
    omega (arith, place, some)
