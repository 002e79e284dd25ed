use Rattle.std.proofs.Common.{◌≡◌, ◌++◌, ◌∙◌, List, OnOk, ap, codes, decimal, subst, ℕ}
use Rattle.otp_spec.specs.Words.{strategy_word}
use Rattle.otp_pages.specs.Trees.{auto_words, flags_html, limit_words}
use Rattle.otp_pages.proofs.Joined.{more, on_ok, whole}
use Rattle.otp_pages.proofs.supervisor.put_flags.Goals as goal

pub returns : goal.returns
unfolding flags_html
returns c =
    let out : List ℕ = c.args.out.now.items in
    let piece1 : List ℕ = codes "<p class=\"flags\"><b>" in
    let mid1 : List ℕ = c.extend_from_slice.new.self.items in
    let is1 : mid1 ≡ out ++ piece1 = c.in_ok-extend_from_slice.ensures.items in
    let all1 : List ℕ = piece1 in
    let whole1 : mid1 ≡ out ++ all1 = is1 in
    let piece2 : List ℕ = strategy_word c.args.flags.now.strategy in
    let mid2 : List ℕ = c.extend_from_slice-2.new.self.items in
    let is2 : mid2 ≡ mid1 ++ piece2 = c.in_ok-extend_from_slice-2.ensures.items ∙ ap (λ (xs : List ℕ). mid1 ++ xs) (c.as_bytes.ensures.value ∙ c.word.ensures.word) in
    let all2 : List ℕ = all1 ++ piece2 in
    let whole2 : mid2 ≡ out ++ all2 = more out all1 mid1 piece2 mid2 whole1 is2 in
    let piece3 : List ℕ = codes "</b> " in
    let mid3 : List ℕ = c.extend_from_slice-3.new.self.items in
    let is3 : mid3 ≡ mid2 ++ piece3 = c.in_ok-extend_from_slice-3.ensures.items in
    let all3 : List ℕ = all2 ++ piece3 in
    let whole3 : mid3 ≡ out ++ all3 = more out all2 mid2 piece3 mid3 whole2 is3 in
    let piece4 : List ℕ = limit_words c.args.flags.now in
    let mid4 : List ℕ = c.put_limit.new.out.items in
    let is4 : mid4 ≡ mid3 ++ piece4 = c.in_ok-put_limit.ensures in
    let all4 : List ℕ = all3 ++ piece4 in
    let whole4 : mid4 ≡ out ++ all4 = more out all3 mid3 piece4 mid4 whole3 is4 in
    let piece5 : List ℕ = auto_words c.args.flags.now.auto_shutdown in
    let mid5 : List ℕ = c.extend_from_slice-4.new.self.items in
    let is5 : mid5 ≡ mid4 ++ piece5 = c.in_ok-extend_from_slice-4.ensures.items ∙ ap (λ (xs : List ℕ). mid4 ++ xs) c.auto_words.ensures in
    let all5 : List ℕ = all4 ++ piece5 in
    let whole5 : mid5 ≡ out ++ all5 = more out all4 mid4 piece5 mid5 whole4 is5 in
    let last : List ℕ = codes "</p>\n" in
    subst (λ (xs : List ℕ). OnOk c.extend_from_slice-5.result (c.extend_from_slice-5.new.self.items ≡ xs)) (whole out all5 mid5 last whole5) (on_ok c.extend_from_slice-5.result c.extend_from_slice-5.new.self.items (mid5 ++ last) mid5 c.extend_from_slice-5.ensures.items)
