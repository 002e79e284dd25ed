use Rattle.std.proofs.Common.{set, add-one, ℕ, ap, ◌∙◌, replicate}
use Rattle.otp_signals.proofs.Moves.{opens}
use Rattle.otp_signals.proofs.words.OpenWords.open.Goals as goal

pub of_words-requires : goal.of_words-requires
of_words-requires c = opens c.args.slots _ (c.as_slice.ensures.value ∙ ap (λ l. set l 0 1) ((c.in_ok-words.ensures {u = tt}).items_if_clones_equal (λ y e. e)) ∙ ap (λ k. set (replicate {A = ℕ} k 0) 0 1) (add-one c.args.slots))
