-- The orders of a supervisor, taken one by one.
use Rattle.std.specs.Prelude.{◌≡◌, option_map, ℕ, ◌+◌, ◌-◌, ◌<◌, ◌≤◌, Bool, true, false, List, [], ◌∷◌, ◌++◌, Option, Some, None, refl, length, drop, nat_lt, slice_get, if◌then◌else◌}
use Rattle.std.proofs.Common.{◌∙◌, ap, arith, subst, suc, sym, zero}
use Rattle.std.proofs.lemmas.Bool.{ltb-false, ltb-true}
use Rattle.std.proofs.lemmas.List.{append-nil, append_assoc, drop_all, drop_more}
use Rattle.std.proofs.lemmas.Option.{get_or_from_slice_get, slice_get_within}
use Rattle.std.proofs.lemmas.List.Elements.{filter-append, filter_map-append}
use Rattle.std.specs.List.{filter, filter_map}
use Rattle.otp_rules.specs.declared.event.Effect.{Effect}
use Rattle.otp_driver.specs.Members.{Member, passed}
use Rattle.otp_costs.specs.Taking.{Stays, pending}

-- the next order is taken
pub record Passes (m after : Member) (o : Effect) : Type 0 where
  pub rest : pending m ≡ o ∷ pending after
  pub within : after.taken ≤ length after.effects
  pub less : length after.effects - after.taken < length m.effects - m.taken
  pub stays : Stays m after

by_test : (m : Member) (o : Effect) → slice_get m.effects m.taken ≡ Some o → (b : Bool) → nat_lt (m.taken + 1) (length m.effects) ≡ b
    → Passes m (if b then record m { taken = m.taken + 1 } else record m { effects = []; taken = 0 }) o
by_test m o is true test =
    let inside : m.taken < length m.effects = slice_get_within m.effects m.taken o is in
    let more : m.taken + 1 < length m.effects = ltb-true (m.taken + 1) (length m.effects) test in
    record {
      rest = drop_more m.effects m.taken o inside ∙ ap (λ (x : Effect). x ∷ drop (m.taken + 1) m.effects) (get_or_from_slice_get m.effects m.taken o o is);
      within = omega (arith, more);
      less = omega (arith, more);
      stays = record { base = refl; given = refl; history = refl };
    }
by_test m o is false test =
    let inside : m.taken < length m.effects = slice_get_within m.effects m.taken o is in
    let last : length m.effects ≤ m.taken + 1 = ltb-false (m.taken + 1) (length m.effects) test in
    record {
      rest = drop_more m.effects m.taken o inside ∙ ap (λ (x : Effect). x ∷ drop (m.taken + 1) m.effects) (get_or_from_slice_get m.effects m.taken o o is)
          ∙ ap (λ (xs : List Effect). o ∷ xs) (drop_all (m.taken + 1) m.effects last);
      within = omega arith;
      less = omega (arith, inside);
      stays = record { base = refl; given = refl; history = refl };
    }

pub passes : (m after : Member) (o : Effect) → slice_get m.effects m.taken ≡ Some o → after ≡ passed m → Passes m after o
unfolding passed
passes m after o is same = subst (λ (x : Member). Passes m x o) (sym same) (by_test m o is (nat_lt (m.taken + 1) (length m.effects)) refl)

-- where none is next all were taken
pub all_taken : (xs : List Effect) (k : ℕ) → slice_get xs k ≡ None → length xs ≤ k
all_taken [] k none = omega arith
all_taken (x ∷ xs) zero none = cc
all_taken (x ∷ xs) (suc k) none = let before : length xs ≤ k = all_taken xs k none in omega (arith, before)

-- what comes of an order that is put behind others, and of what is left
pub notes_moved : {A : Type 0} (f : Effect → Option A) (old new : List A) (o : Effect) (m after : Member) → new ≡ old ++ filter_map f (o ∷ []) → pending m ≡ o ∷ pending after
    → new ++ filter_map f (pending after) ≡ old ++ filter_map f (pending m)
notes_moved {A} f old new o m after is rest =
    ap (λ (xs : List A). xs ++ filter_map f (pending after)) is
    ∙ append_assoc old (filter_map f (o ∷ [])) (filter_map f (pending after))
    ∙ ap (λ (xs : List A). old ++ xs) (sym (filter_map-append f (o ∷ []) (pending after)))
    ∙ ap (λ (xs : List Effect). old ++ filter_map f xs) (sym rest)

pub orders_moved : (f : Effect → Bool) (old new : List Effect) (o : Effect) (m after : Member) → new ≡ old ++ filter f (o ∷ []) → pending m ≡ o ∷ pending after
    → new ++ filter f (pending after) ≡ old ++ filter f (pending m)
orders_moved f old new o m after is rest =
    ap (λ (xs : List Effect). xs ++ filter f (pending after)) is
    ∙ append_assoc old (filter f (o ∷ [])) (filter f (pending after))
    ∙ ap (λ (xs : List Effect). old ++ xs) (sym (filter-append f (o ∷ []) (pending after)))
    ∙ ap (λ (xs : List Effect). old ++ filter f xs) (sym rest)

-- and where none is left
pub notes_done : {A : Type 0} (f : Effect → Option A) (old new : List A) (m after : Member) → new ++ filter_map f (pending after) ≡ old ++ filter_map f (pending m)
    → slice_get after.effects after.taken ≡ None → new ≡ old ++ filter_map f (pending m)
notes_done {A} f old new m after is none =
    let left : pending after ≡ [] = drop_all after.taken after.effects (all_taken after.effects after.taken none) in
    sym (append-nil new) ∙ ap (λ (xs : List Effect). new ++ filter_map f xs) (sym left) ∙ is

pub orders_done : (f : Effect → Bool) (old new : List Effect) (m after : Member) → new ++ filter f (pending after) ≡ old ++ filter f (pending m)
    → slice_get after.effects after.taken ≡ None → new ≡ old ++ filter f (pending m)
orders_done f old new m after is none =
    let left : pending after ≡ [] = drop_all after.taken after.effects (all_taken after.effects after.taken none) in
    sym (append-nil new) ∙ ap (λ (xs : List Effect). new ++ filter f xs) (sym left) ∙ is

pub stays_on : (a b c : Member) → Stays a b → Stays b c → Stays a c
stays_on a b c one other = record { base = other.base ∙ one.base; given = other.given ∙ one.given; history = other.history ∙ one.history }

-- the next order, by what its place gives
pub some_next : {X : Type 0} (shown : X → Effect) (o : Option X) (x : X) (m : Member) → option_map shown o ≡ slice_get m.effects m.taken → o ≡ Some x → slice_get m.effects m.taken ≡ Some (shown x)
some_next {X} shown o x m is some = sym is ∙ ap (λ (o : Option X). option_map shown o) some

pub none_next : {X : Type 0} (shown : X → Effect) (o : Option X) (m : Member) → option_map shown o ≡ slice_get m.effects m.taken → o ≡ None → slice_get m.effects m.taken ≡ None
none_next {X} shown o m is none = sym is ∙ ap (λ (o : Option X). option_map shown o) none
