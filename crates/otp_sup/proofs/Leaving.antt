-- The body that leaves with a process, or comes back where the port refused.
use Rattle.std.specs.Prelude.{◌≡◌, ◌+◌, ◌<◌, ℕ, true, List, Option, None, Some, IfSome, IsSome, MatchOption, is_some, length, refl, position, unwrap_or}
use Rattle.std.proofs.Common.{◌∙◌, ap, arith, sym, subst}
use Rattle.std.proofs.lemmas.Bool.{false≢true}
use Rattle.otp_bodies.specs.declared.bodies.Kept.{Kept}
use Rattle.otp_bodies.specs.declared.bodies.BodyPlace.TheVariants as placed
use Rattle.otp_bodies.specs.declared.port.Flushed.{Flushed}
use Rattle.otp_bodies.specs.declared.port.Flushed.TheVariants as flushed
use Rattle.otp_bodies.specs.Bodies.{BodiesView, CanComeBack, bodies_in, bodies_sent, has_body, is_at_home, left_home, move_first, put_home, stray}
use Rattle.otp_bodies.specs.Letters.{one_if}
use Rattle.otp_bodies.proofs.CountBodies.{left_count}
use Rattle.otp_bodies.proofs.Keeping.{any_at, first_at, move_none, none_passes}

-- the place in the list of the body that is at home in this slot, if there is one
abbrev pub IsHomeAt : Option ℕ → Option ℕ → List Kept → Type 0
IsHomeAt slot at kept = MatchOption slot (at ≡ None) (λ k. at ≡ position (is_at_home k) kept)

-- what is known once the body of the child in this slot has left its home, or there is none
pub record Leaves (B : Type 0) (slot at : Option ℕ) (body : Option B) (older between : List Kept) : Type 0 where
  pub left : between ≡ left_home slot older
  pub none : body ≡ None → between ≡ older
  pub found : (k : ℕ) → slot ≡ Some k → has_body k older ≡ true → IsSome body
  pub can : IsSome body → CanComeBack slot at between older
  pub count : bodies_in between + one_if (is_some body) ≡ bodies_in older

pub is_none : {X : Type 0} (o : Option X) → o ≡ None → is_some o ≡ true → ⊥
is_none o none some = false≢true (ap (λ x. is_some x) (sym none) ∙ some)

pub leaves_one : {B : Type 0} (slot at : Option ℕ) (k i : ℕ) (body : Option B) (older between : List Kept) → IsHomeAt slot at older → slot ≡ Some k → at ≡ Some i
    → between ≡ move_first (is_at_home k) (placed.Away k) older → is_some body ≡ true → put_home i k between ≡ older → i < length between → Leaves B slot at body older between
leaves_one slot at k i body older between home is_slot is_at moved some back within =
    let found : Some i ≡ position (is_at_home k) older = subst (λ a. a ≡ position (is_at_home k) older) is_at (subst (λ s. IsHomeAt s at older) is_slot home) in
    let any = any_at (is_at_home k) older i stray (first_at (is_at_home k) older i stray (sym found)) in
    let same : bodies_in between ≡ bodies_in (move_first (is_at_home k) (placed.Away k) older) = ap (λ (l : List Kept). bodies_in l) moved in
    let one : one_if (is_some body) ≡ 1 = ap one_if some in
    subst (λ s. Leaves _ s at body older between) (sym is_slot) (subst (λ a. Leaves _ (Some k) a body older between) (sym is_at) (record {
      left = moved;
      none = λ none. absurd (is_none body none some);
      found = λ j is has. some;
      can = λ is. (within, back);
      count = omega (arith, same, one, left_count k older any);
    }))

pub leaves_none : {B : Type 0} (slot at : Option ℕ) (body : Option B) (older between : List Kept) → IsHomeAt slot at older → (IsSome slot → IsSome at → ⊥)
    → body ≡ None → between ≡ older → Leaves B slot at body older between
leaves_none None at body older between home never none same =
    record {
      left = same;
      none = λ is. same;
      found = λ k is has. absurd (is_none (Some k) (sym is) refl);
      can = λ is. absurd (is_none body none is);
      count = let n : one_if (is_some body) ≡ 0 = ap (λ o. one_if (is_some o)) none in let b : bodies_in between ≡ bodies_in older = ap (λ (l : List Kept). bodies_in l) same in omega (arith, n, b);
    }
leaves_none (Some k) None body older between home never none same =
    let bare = none_passes (is_at_home k) older (sym home) in
    record {
      left = same ∙ sym (move_none (is_at_home k) (placed.Away k) older bare);
      none = λ is. same;
      found = λ j is has. absurd (false≢true (sym bare ∙ ap (λ (o : Option ℕ). has_body (unwrap_or o k) older) is ∙ has));
      can = λ is. absurd (is_none body none is);
      count = let n : one_if (is_some body) ≡ 0 = ap (λ o. one_if (is_some o)) none in let b : bodies_in between ≡ bodies_in older = ap (λ (l : List Kept). bodies_in l) same in omega (arith, n, b);
    }
leaves_none (Some k) (Some i) body older between home never none same = absurd (never refl refl)

-- the same of bodies by other names
pub leaves_same : {B : Type 0} (slot at : Option ℕ) (body there : Option B) (older : List Kept) (between now : BodiesView) → Leaves B slot at body older between.kept → now ≡ between → there ≡ body
    → Leaves B slot at there older now.kept
leaves_same slot at body there older between now leaves same is =
    subst (λ (v : BodiesView). Leaves _ slot at there older v.kept) (sym same) (subst (λ o. Leaves _ slot at o older between.kept) (sym is) leaves)

-- what is known once a body that didn't leave after all came back
pub record Returns (B : Type 0) (slot at : Option ℕ) (back : Option B) (between now : List Kept) : Type 0 where
  pub stays : back ≡ None → now ≡ between
  pub comes : (kept : List Kept) → IsSome back → CanComeBack slot at between kept → now ≡ kept

pub returns_back : {B : Type 0} (slot at : Option ℕ) (back : Option B) (body : B) (between now : List Kept) → back ≡ Some body → ((kept : List Kept) → CanComeBack slot at between kept → now ≡ kept)
    → Returns B slot at back between now
returns_back slot at back body between now is put = record { stays = λ none. absurd (is_none back none (ap (λ o. is_some o) is)); comes = λ kept some can. put kept can }

pub returns_none : {B : Type 0} (slot at : Option ℕ) (back : Option B) (between now : List Kept) → (IsSome back → ⊥) → now ≡ between → Returns B slot at back between now
returns_none slot at back between now never same = record { stays = λ none. same; comes = λ kept some can. absurd (never some) }

-- the place in the list to which a body can come back
pub fits : (slot at : Option ℕ) (kept older : List Kept) → CanComeBack slot at kept older → IfSome at (λ i. i < length kept)
fits None at kept older can = absurd can
fits (Some slot) None kept older can = absurd can
fits (Some slot) (Some i) kept older can = can.0

-- what is known of a body that was to leave: it is as it was before, or where it went
pub record Left (B : Type 0) (how : Flushed) (slot at : Option ℕ) (body back : Option B) (older between now : List Kept) : Type 0 where
  pub leaves : Leaves B slot at body older between
  pub returns : Returns B slot at back between now
  pub whose : IsSome back → IsSome body
  pub refused : how ≡ flushed.Refused → back ≡ body
  pub gone : how ≡ flushed.Sent → IsSome slot → back ≡ None
  pub empty : how ≡ flushed.Empty → slot ≡ None

-- it came back
came : {B : Type 0} (how : Flushed) (slot at : Option ℕ) (body back : Option B) (older between now : List Kept) → Left B how slot at body back older between now → IsSome back → now ≡ older
came how slot at body back older between now l h = l.returns.comes older h (l.leaves.can (l.whose h))

unchanged : {B : Type 0} (how : Flushed) (slot at : Option ℕ) (body back x : Option B) (older between now : List Kept) → Left B how slot at body back older between now → between ≡ older → back ≡ x → now ≡ older
unchanged how slot at body back None older between now l same is = l.returns.stays is ∙ same
unchanged how slot at body back (Some b) older between now l same is = came how slot at body back older between now l (subst (λ o. IsSome o) (sym is) refl)

pub left_or_not : {B : Type 0} (how : Flushed) (slot at : Option ℕ) (body back : Option B) (older between now : List Kept) → Left B how slot at body back older between now → now ≡ bodies_sent how slot older
left_or_not flushed.Empty slot at body back older between now l =
    unchanged flushed.Empty slot at body back back older between now l (l.leaves.left ∙ ap (λ (s : Option ℕ). left_home s older) (l.empty refl)) refl
left_or_not flushed.Sent None at body back older between now l = unchanged flushed.Sent None at body back back older between now l l.leaves.left refl
left_or_not flushed.Sent (Some slot) at body back older between now l = l.returns.stays (l.gone refl refl) ∙ l.leaves.left
left_or_not flushed.Refused slot at None back older between now l = l.returns.stays (l.refused refl) ∙ l.leaves.none refl
left_or_not flushed.Refused slot at (Some b) back older between now l =
    came flushed.Refused slot at (Some b) back older between now l (subst (λ o. IsSome o) (sym (l.refused refl)) refl)

-- the body that came back is in the list again
pub count_returned : {B : Type 0} (how : Flushed) (slot at : Option ℕ) (body back : Option B) (older between now : List Kept) → Left B how slot at body back older between now
    → bodies_in now ≡ bodies_in between + one_if (is_some back)
count_returned how slot at body None older between now l = let same : bodies_in now ≡ bodies_in between = ap (λ (k : List Kept). bodies_in k) (l.returns.stays refl) in omega (arith, same)
count_returned how slot at body (Some b) older between now l =
    let same : bodies_in now ≡ bodies_in older = ap (λ (k : List Kept). bodies_in k) (came how slot at body (Some b) older between now l refl) in
    let one : one_if (is_some body) ≡ 1 = ap one_if (l.whose refl) in
    let count = l.leaves.count in
    omega (arith, same, one, count)
