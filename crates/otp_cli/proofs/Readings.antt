-- What the getters of `clap` read, by the rows of what was found.
use Rattle.std.proofs.Common.{◌≡◌, ◌∙◌, ℕ, Bool, true, false, List, Option, None, Some, Result, Ok, IfSome, MatchOption, codes, subst, sym, refl}
use Rattle.std.specs.Prelude.{⊤}
use Rattle.std.specs.Str.Parse.{ParsesUnsigned}
use Rattle.clap.proofs.WalkLemmas.{one_text-rows}
use Rattle.clap.specs.Words.{ReadsOne, Text, one_text, rows_of}
use Rattle.clap.specs.declared.parser.matches.Found.{Found}
use Rattle.otp_cli.specs.Asked.{IsFlagOf, IsNumberOf}

pub number_read : (E : Type 0) (G : List ℕ → Result ℕ E → Type 0) (k : ℕ) (f : Found) (id : Text) (read : Option ℕ)
    → ((text : List ℕ) (r : Result ℕ E) → G text r → ParsesUnsigned k 10 text r) → (one_text f id ≡ None → read ≡ None)
    → ((text : List ℕ) → one_text f id ≡ Some text → ReadsOne G text read) → IfSome read (IsNumberOf (rows_of f) id)
number_read E G k f id None parses none given = tt
number_read E G k f id (Some number) parses none given = go (one_text f id) refl
  where
    go : (o : Option (List ℕ)) → one_text f id ≡ o → IsNumberOf (rows_of f) id number
    go None missing = absurd (subst (λ (o : Option ℕ). MatchOption o ⊥ (λ _. ⊤)) (none missing) tt)
    go (Some text) there =
        let parsed = parses text (Ok number) (given text there) in record {
          text = text;
          given = sym (one_text-rows f id) ∙ there;
          digits = parsed.0.0;
          number_is = parsed.1;
        }

pub flag_read : (f : Found) (id : Text) (is_set : Bool) → (one_text f id ≡ None → is_set ≡ false) → (one_text f id ≡ Some (codes "true") → is_set ≡ true)
    → (one_text f id ≡ Some (codes "false") → is_set ≡ false) → IsFlagOf (rows_of f) id is_set
flag_read f id is_set none set other = record {
  set = λ e. set (one_text-rows f id ∙ e);
  unset = λ e. other (one_text-rows f id ∙ e);
  missing = λ e. none (one_text-rows f id ∙ e);
}
