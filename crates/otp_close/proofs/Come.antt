-- What was sent and what came, said by items alone.
use Rattle.std.proofs.Common.{◌≡◌, ◌∙◌, ℕ, ◌+◌, Bool, true, false, List, [], ◌∷◌, ◌++◌, length, map, drop, refl, sym, ap, subst, arith}
use Rattle.std.specs.Prelude.{sum_by}
use Rattle.std.proofs.lemmas.List.{length-map, map-append}
use Rattle.std.proofs.lemmas.List.Sums.{sum_by-cons}
use Rattle.otp_inbox.specs.Lists.{AsOften, EachInOrder, InOrder, chosen}
use Rattle.otp_inbox.specs.Tokens.{added}
use Rattle.otp_rules.specs.declared.event.Item.{Item}
use Rattle.otp_bodies.specs.declared.letter.Message.{Message}
use Rattle.otp_bodies.specs.Letters.{Sending}
use Rattle.otp_bodies.specs.Messages.{items_in, message}
use Rattle.otp_hand.specs.Ended.{end_in, end_of, ends_among, ends_in}
use Rattle.otp_close.specs.Leavings.{IsLeft}

-- items weigh what their messages weigh
weighed : (weight : Item → ℕ) (ms : List Message) → sum_by weight (items_in ms) ≡ sum_by (λ (m : Message). weight m.item) ms
weighed weight [] = refl
weighed weight (m ∷ ms) =
    let items = sum_by-cons weight m.item (items_in ms) in
    let all = sum_by-cons (λ (n : Message). weight n.item) m ms in
    let rest = weighed weight ms in
    omega (arith, items, all, rest)

-- the end notes among items are those among their messages
pub ends_said : (ms : List Message) → ends_in (items_in ms) ≡ ends_among ms
ends_said ms = weighed end_of ms

-- what is there as often as it was sent says the same items as often
pub items_as_often : (sent taken left : List Message) → AsOften sent (taken ++ left) → AsOften (items_in sent) (items_in taken ++ items_in left)
items_as_often sent taken left often weight =
    weighed weight sent
    ∙ often (λ (m : Message). weight m.item)
    ∙ sym (weighed weight (taken ++ left))
    ∙ ap (λ (l : List Item). sum_by weight l) (map-append (λ (m : Message). m.item) taken left)

items_chosen : (mask : List Bool) (ms : List Message) → chosen mask (items_in ms) ≡ items_in (chosen mask ms)
items_chosen [] ms = refl
items_chosen (b ∷ mask) [] = refl
items_chosen (true ∷ mask) (m ∷ ms) = ap (λ (l : List Item). m.item ∷ l) (items_chosen mask ms)
items_chosen (false ∷ mask) (m ∷ ms) = items_chosen mask ms

items_in_order : (xs ys : List Message) → InOrder xs ys → InOrder (items_in xs) (items_in ys)
items_in_order xs ys order = (
  order.0,
  order.1 ∙ sym (length-map ys (λ (m : Message). m.item)),
  items_chosen order.0 ys ∙ ap (λ (l : List Message). items_in l) order.2,
)

each_by_items : (xss : List (List Message)) (ys : List Message) → EachInOrder xss ys → EachInOrder (map items_in xss) (items_in ys)
each_by_items [] ys each = tt
each_by_items (xs ∷ xss) ys each = (items_in_order xs ys each.0, each_by_items xss ys each.1)

-- each sender's items stand in the order in which it sent them
pub items_each_in_order : (lists : List (List Message)) (taken left : List Message) → EachInOrder lists (taken ++ left) → EachInOrder (map items_in lists) (items_in taken ++ items_in left)
items_each_in_order lists taken left each =
    subst (λ (l : List Item). EachInOrder (map items_in lists) l) (map-append (λ (m : Message). m.item) taken left) (each_by_items lists (taken ++ left) each)

module _ {B : Type 0} where
  -- letters without their bodies
  abbrev pub messages_of : List (Sending B) → List Message
  messages_of letters = map (λ l. message l.item l.end) letters

  pub says : (letters : List (Sending B)) → items_in (messages_of letters) ≡ map (λ l. l.item) letters
  says [] = refl
  says (l ∷ letters) = ap (λ (xs : List Item). l.item ∷ xs) (says letters)

  -- all that was added to a list that was empty
  pub all_added : (old new : List (Sending B)) → old ≡ [] → added old new ≡ new
  all_added old new none = ap (λ (l : List (Sending B)). drop (length l) new) none ∙ whole new
    where
      whole : (l : List (Sending B)) → drop 0 l ≡ l
      whole [] = refl
      whole (x ∷ xs) = refl
