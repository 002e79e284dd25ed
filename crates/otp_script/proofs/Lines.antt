-- Lines as loops go over them.
use Prim.Native.Nat.{zero, suc}
use Rattle.std.proofs.Common.{◌≡◌, ℕ, ◌+◌, ◌-◌, ◌<◌, ◌≤◌, ◌==◌, Bool, true, false, ◌&&◌, if◌then◌else◌, nat_lt, List, [], ◌∷◌, ◌++◌, Option, None, ap, append_assoc, arith, drop, drop-cons, get_or, length, length-append, refl, set, sym, take}
use Rattle.std.proofs.Math.Numerals.{add-one}
use Rattle.std.proofs.lemmas.Bool.{lt-ltb, ltb-true}
use Rattle.std.proofs.lemmas.List.{append-nil, drop_all, length-drop, length-take-le, take_all, take_more_set}
use Rattle.otp_text.specs.Lines.{line_of}
use Rattle.otp_text.specs.declared.line.Line.{Line}
use Rattle.otp_text.specs.declared.line.TheConstants.{LONGEST_LINE}
use Rattle.otp_script.specs.Spaced.{begins_comment, end_after_last, is_space, place_behind, spaced_behind, without_comment}

-- what is cut off twice is cut off once
pub take_again : (n : ℕ) (xs ys : List ℕ) → take n (take n xs ++ ys) ≡ take n (xs ++ ys)
take_again zero xs ys = refl
take_again (suc n) [] ys = refl
take_again (suc n) (x ∷ xs) ys = ap (λ l. x ∷ l) (take_again n xs ys)

pieces : (ends begins : Bool) (byte : ℕ) (rest : List ℕ) → (if ends then rest else if begins then 32 ∷ byte ∷ rest else byte ∷ rest) ≡ (if ends then [] else if begins then 32 ∷ byte ∷ [] else byte ∷ []) ++ rest
pieces true begins byte rest = refl
pieces false true byte rest = refl
pieces false false byte rest = refl

-- one byte of a line, and then the others
pub one_spaced : (before byte : ℕ) (line : List ℕ) → spaced_behind before (byte ∷ line) ≡ spaced_behind before (byte ∷ []) ++ spaced_behind byte line
unfolding spaced_behind
one_spaced before byte line = pieces (is_space byte) (is_space before) byte (spaced_behind byte line)

pub none_spaced : (before byte : ℕ) → is_space byte ≡ true → spaced_behind before (byte ∷ []) ≡ []
unfolding spaced_behind
none_spaced before byte e = rw e refl

pub gap_spaced : (before byte : ℕ) → is_space byte ≡ false → is_space before ≡ true → spaced_behind before (byte ∷ []) ≡ 32 ∷ byte ∷ []
unfolding spaced_behind
gap_spaced before byte e b = rw (e, b) refl

pub byte_spaced : (before byte : ℕ) → is_space byte ≡ false → is_space before ≡ false → spaced_behind before (byte ∷ []) ≡ byte ∷ []
unfolding spaced_behind
byte_spaced before byte e b = rw (e, b) refl

-- all that was put fits
pub put_all : (room : ℕ) (put : List ℕ) → length put ≤ room → put ≡ take room (put ++ [])
put_all room put fits = rw (append-nil put, take_all room put fits) refl

-- nothing more fits
pub put_none : (room : ℕ) (put more : List ℕ) → length put ≡ room → put ≡ take room (put ++ more)
put_none zero [] more e = refl
put_none zero (x ∷ put) more e = absurd (omega (arith, e))
put_none (suc room) [] more e = absurd (omega (arith, e))
put_none (suc room) (x ∷ put) more e = ap (λ l. x ∷ l) (put_none room put more (omega (arith, e)))

-- a byte was put where there was room
pub put_less : (room n : ℕ) (bytes : List ℕ) (byte : ℕ) → n < room → n < length bytes → take (n + 1) (set bytes n byte) ≡ take room (take n bytes ++ byte ∷ [])
put_less room n bytes byte less inside =
    let some = length-take-le n bytes (omega (arith, inside)) in
    rw (take_more_set bytes n byte inside) (sym (take_all room (take n bytes ++ byte ∷ []) (grind (arith, length-append, some, less))))

-- two bytes were put one after the other
pub put_two : (room : ℕ) (put one two : List ℕ) (a b : ℕ) → one ≡ take room (put ++ a ∷ []) → two ≡ take room (one ++ b ∷ []) → two ≡ take room (put ++ a ∷ b ∷ [])
put_two room put one two a b e f =
    rw (f, e, take_again room (put ++ a ∷ []) (b ∷ []), append_assoc put (a ∷ []) (b ∷ [])) refl

-- a loop that puts bytes goes one byte further
pub spaced_further : (room : ℕ) (all put new : List ℕ) (before index : ℕ) (line : List ℕ) → index < length line →
    take room all ≡ take room (put ++ spaced_behind before (drop index line)) →
    new ≡ take room (put ++ spaced_behind before (get_or line index 0 ∷ [])) →
    take room all ≡ take room (new ++ spaced_behind (get_or line index 0) (drop (index + 1) line))
spaced_further room all put new before index line inside was is =
    let byte = get_or line index 0 in
    let rest = drop (index + 1) line in
    let whole : drop index line ≡ byte ∷ rest = rw (add-one index) (drop-cons line index 0 inside) in
    let one = one_spaced before byte rest in
    let again = take_again room (put ++ spaced_behind before (byte ∷ [])) (spaced_behind byte rest) in
    rw (was, whole, one, is, again, append_assoc put (spaced_behind before (byte ∷ [])) (spaced_behind byte rest)) refl

-- a line that has more bytes than one may have says nothing
pub long_line : (text : List ℕ) → LONGEST_LINE < length text → line_of text ≡ None
unfolding line_of
long_line [] e = absurd (omega (arith, e))
long_line (byte ∷ bytes) e = rw (lt-ltb LONGEST_LINE (length (byte ∷ bytes)) e) refl

line_longer : (room : ℕ) (whole : List ℕ) → LONGEST_LINE + 1 < room → (is_short : Bool) → nat_lt room (length whole) ≡ is_short →
    line_of (drop 1 (take room whole)) ≡ line_of (drop 1 whole)
line_longer room whole wide false e = rw (take_all room whole (grind (arith, e))) refl
line_longer room whole wide true e =
    let long : room < length whole = ltb-true room (length whole) e in
    let some = length-take-le room whole (omega (arith, long)) in
    let cut = length-drop 1 (take room whole) in
    let all = length-drop 1 whole in
    rw (long_line (drop 1 (take room whole)) (omega (arith, wide, some, cut)), long_line (drop 1 whole) (omega (arith, wide, long, all))) refl

-- a line of which the end is cut off says what the whole line says, where it is too long all the same
pub line_cut : (room : ℕ) (whole : List ℕ) → LONGEST_LINE + 1 < room → line_of (drop 1 (take room whole)) ≡ line_of (drop 1 whole)
line_cut room whole wide = line_longer room whole wide (nat_lt room (length whole)) refl

-- the line goes on behind this byte
pub no_comment : (k : ℕ) (line : List ℕ) → k < length line → (is_space (get_or line k 0) && begins_comment (drop (suc k) line)) ≡ false →
    take k line ++ without_comment (drop k line) ≡ take (suc k) line ++ without_comment (drop (suc k) line)
unfolding without_comment
no_comment k [] inside e = absurd (omega (arith, inside))
no_comment zero (byte ∷ line) inside e = rw e refl
no_comment (suc k) (byte ∷ line) inside e = ap (λ l. byte ∷ l) (no_comment k line (omega (arith, inside)) e)

-- a comment begins behind this byte
pub a_comment : (k : ℕ) (line : List ℕ) → k < length line → (is_space (get_or line k 0) && begins_comment (drop (suc k) line)) ≡ true →
    take k line ++ without_comment (drop k line) ≡ take (suc k) line
unfolding without_comment
a_comment k [] inside e = absurd (omega (arith, inside))
a_comment zero (byte ∷ line) inside e = rw e refl
a_comment (suc k) (byte ∷ line) inside e = ap (λ l. byte ∷ l) (a_comment k line (omega (arith, inside)) e)

last_byte : (byte : ℕ) (ends : Bool) → (byte ∷ (if ends && false then [] else [])) ≡ byte ∷ []
last_byte byte true = refl
last_byte byte false = refl

-- no byte is left behind which one could begin
pub comment_none : (k : ℕ) (line : List ℕ) → length line ≤ suc k → take k line ++ without_comment (drop k line) ≡ line
unfolding without_comment begins_comment
comment_none zero [] le = refl
comment_none (suc k) [] le = refl
comment_none zero (byte ∷ []) le = last_byte byte (is_space byte)
comment_none zero (byte ∷ other ∷ line) le = absurd (omega (arith, le))
comment_none (suc k) (byte ∷ line) le = ap (λ l. byte ∷ l) (comment_none k line (omega (arith, le)))

-- the same by the place behind the byte
pub comment_further : (whole line : List ℕ) (before place next : ℕ) → place ≡ suc before → next ≡ suc before → before < length line →
    (is_space (get_or line before 0) && begins_comment (drop place line)) ≡ false →
    whole ≡ take before line ++ without_comment (drop before line) →
    whole ≡ take next line ++ without_comment (drop next line)
comment_further whole line before place next e f inside test was =
    rw (was, f) (no_comment before line inside (rw (sym e) test))

pub comment_found : (whole line : List ℕ) (before place : ℕ) → place ≡ suc before → before < length line →
    (is_space (get_or line before 0) && begins_comment (drop place line)) ≡ true →
    whole ≡ take before line ++ without_comment (drop before line) → take place line ≡ whole
comment_found whole line before place e inside test was =
    rw (was, e) (sym (a_comment before line inside (rw (sym e) test)))

-- the place behind the last one of a text of which so much was looked through
pub so_far : ℕ → ℕ → ℕ → ℕ
so_far end place zero = end
so_far end place (suc n) = place + suc n

pub so_far_begins : (n : ℕ) → n ≡ so_far 0 0 n
unfolding so_far
so_far_begins zero = refl
so_far_begins (suc n) = omega arith

one_further : (is_one : Bool) (end place n : ℕ) → so_far end place (place_behind is_one n) ≡ so_far (if is_one then place + 1 else end) (place + 1) n
unfolding so_far
one_further is_one end place (suc n) = omega arith
one_further true end place zero = refl
one_further false end place zero = refl

pub place_further : (whole byte end place : ℕ) (text : List ℕ) (is_one : Bool) → place < length text → (get_or text place 0 == byte) ≡ is_one →
    whole ≡ so_far end place (end_after_last byte (drop place text)) →
    whole ≡ so_far (if is_one then place + 1 else end) (place + 1) (end_after_last byte (drop (suc place) text))
unfolding end_after_last
place_further whole byte end place text is_one inside test was =
    rw (was, drop-cons text place 0 inside, test) (one_further is_one end place (end_after_last byte (drop (suc place) text)))

dropped : (place : ℕ) (text : List ℕ) → drop (suc place) text ≡ drop (place + 1) text
dropped place text = ap (λ n. drop n text) (sym (add-one place))

-- one stands at this place, or another
pub place_found : (whole byte end place : ℕ) (text : List ℕ) → place < length text → (get_or text place 0 == byte) ≡ true →
    whole ≡ so_far end place (end_after_last byte (drop place text)) → whole ≡ so_far (place + 1) (place + 1) (end_after_last byte (drop (place + 1) text))
place_found whole byte end place text inside test was = rw (sym (dropped place text)) (place_further whole byte end place text true inside test was)

pub place_passed : (whole byte end place : ℕ) (text : List ℕ) → place < length text → (get_or text place 0 == byte) ≡ false →
    whole ≡ so_far end place (end_after_last byte (drop place text)) → whole ≡ so_far end (place + 1) (end_after_last byte (drop (place + 1) text))
place_passed whole byte end place text inside test was = rw (sym (dropped place text)) (place_further whole byte end place text false inside test was)

pub place_done : (whole byte end place : ℕ) (text : List ℕ) → length text ≤ place → whole ≡ so_far end place (end_after_last byte (drop place text)) → end ≡ whole
unfolding so_far end_after_last
place_done whole byte end place text le was = rw (was, drop_all place text le) refl
