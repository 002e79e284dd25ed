-- The parts of a tree that goes on under another file.
use Rattle.std.specs.Prelude.{◌≡◌, ◌+◌, ◌<◌, ℕ, List, [], ◌∷◌, ◌++◌, Option, None, Some, length, refl}
use Rattle.std.proofs.Common.{◌∙◌, ap, append_assoc, arith, inl, inr, length-append, subst, suc, sym, zero}
use Rattle.otp_driver.specs.Links.{HaveParents}
use Rattle.otp_driver.specs.Members.{Member}
use Rattle.otp_driver.specs.declared.driven.link.Link.{Link}
use Rattle.otp_driver.specs.Changed.{IsHeldAt, IsHeldFrom, MayGoOnAs, MayGoOnFrom, at_origin, link_on, links_from, member_on, members_from, origin_at}
use Rattle.otp_driver.specs.declared.changing.Unchanged.{Unchanged}

-- there are as many supervisors as were planted
pub members_stay : (olds : List Member) (origins : List (Option ℕ)) (number : ℕ) (ms : List Member) → length (members_from olds origins number ms) ≡ length ms
members_stay olds origins number [] = refl
members_stay olds origins number (m ∷ ms) = ap suc (members_stay olds origins (number + 1) ms)

-- and as many links
pub links_stay : (olds : List Link) (origins : List (Option ℕ)) (number : ℕ) (ls : List Link) → length (links_from olds origins number ls) ≡ length ls
links_stay olds origins number [] = refl
links_stay olds origins number (l ∷ ls) = ap suc (links_stay olds origins (number + 1) ls)

same_parent : (old : Option Link) (l : Link) → (link_on old l).parent ≡ l.parent
same_parent None l = refl
same_parent (Some old) l = refl

-- whose parents are those of the links that were planted
pub parents_stay : (count : ℕ) (olds : List Link) (origins : List (Option ℕ)) (number : ℕ) (ls : List Link) → HaveParents count ls → HaveParents count (links_from olds origins number ls)
parents_stay count olds origins number [] all k d inside = absurd (omega (arith, inside))
parents_stay count olds origins number (l ∷ ls) all zero d inside =
    let here : l.parent < count = all zero l (omega arith) in
    let same : (link_on (at_origin olds (origin_at origins number)) l).parent ≡ l.parent = same_parent (at_origin olds (origin_at origins number)) l in
    omega (arith, here, same)
parents_stay count olds origins number (l ∷ ls) all (suc k) d inside =
    parents_stay count olds origins (number + 1) ls (λ m e b. all (suc m) e (omega (arith, b))) k d (omega (arith, inside))

-- one more goes on
pub members_more : (olds : List Member) (origins : List (Option ℕ)) (done new : List Member) (made m : Member) (rest later all : List Member)
    → done ++ members_from olds origins (length done) rest ≡ all → rest ≡ m ∷ later → new ≡ done ++ made ∷ []
    → made ≡ member_on (at_origin olds (origin_at origins (length done))) m → new ++ members_from olds origins (length new) later ≡ all
members_more olds origins done new made m rest later all before next push is =
    let n : length new ≡ length done + 1 = ap (λ (xs : List Member). length xs) push ∙ length-append done (made ∷ []) in
    ap (λ (k : ℕ). new ++ members_from olds origins k later) n
    ∙ ap (λ (xs : List Member). xs ++ members_from olds origins (length done + 1) later) push
    ∙ append_assoc done (made ∷ []) (members_from olds origins (length done + 1) later)
    ∙ ap (λ (x : Member). done ++ (x ∷ members_from olds origins (length done + 1) later)) is
    ∙ ap (λ (xs : List Member). done ++ members_from olds origins (length done) xs) (sym next)
    ∙ before

pub may_more : {A : Type 0} (olds : List Member) (origins : List (Option ℕ)) (k n : ℕ) (m : Member) (rest later : List Member)
    → (MayGoOnFrom olds origins k rest → A) → rest ≡ m ∷ later → n ≡ k + 1 → MayGoOnAs (at_origin olds (origin_at origins k)) m
    → MayGoOnFrom olds origins n later → A
may_more {A} olds origins k n m rest later before next is here all =
    let others : MayGoOnFrom olds origins (k + 1) later = subst (λ (i : ℕ). MayGoOnFrom olds origins i later) is all in
    before (subst (λ (xs : List Member). MayGoOnFrom olds origins k xs) (sym next) (here, others))

pub held_more : {A : Unchanged → Type 0} (olds : List Member) (origins : List (Option ℕ)) (k n : ℕ) (m : Member) (rest later : List Member)
    → ((u : Unchanged) → IsHeldFrom olds origins k rest u → A u) → rest ≡ m ∷ later → n ≡ k + 1
    → (u : Unchanged) → IsHeldFrom olds origins n later u → A u
held_more {A} olds origins k n m rest later before next is u held =
    let others : IsHeldFrom olds origins (k + 1) later u = subst (λ (i : ℕ). IsHeldFrom olds origins i later u) is held in
    before u (subst (λ (xs : List Member). IsHeldFrom olds origins k xs u) (sym next) (inr others))

-- or it doesn't
pub held_here : {A : Unchanged → Type 0} (olds : List Member) (origins : List (Option ℕ)) (k : ℕ) (m : Member) (rest later : List Member)
    → ((u : Unchanged) → IsHeldFrom olds origins k rest u → A u) → rest ≡ m ∷ later
    → (u : Unchanged) → IsHeldAt olds (origin_at origins k) m u → A u
held_here {A} olds origins k m rest later before next u held =
    before u (subst (λ (xs : List Member). IsHeldFrom olds origins k xs u) (sym next) (inl held))
