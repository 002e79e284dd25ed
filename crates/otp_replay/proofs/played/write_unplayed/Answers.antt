use Rattle.std.proofs.Common.{ℕ, List, ◌++◌, ◌∙◌, ap, codes}
use Rattle.otp_replay.specs.Nears.{miss_text}
use Rattle.otp_replay.specs.Told.{unplayed_text}
use Rattle.otp_replay.proofs.Puts.{join, put_last}
use Rattle.otp_replay.proofs.played.write_unplayed.Goals as goal

pub returns : goal.returns
unfolding unplayed_text
returns c =
    let front : List ℕ = codes ": not played: " in
    let why : List ℕ = miss_text c.args.miss in
    put_last c.extend_from_slice-3.result c.args.out.now.items (front ++ why) (codes "\n") c.extend_from_slice-2.new.self.items c.extend_from_slice-3.new.self.items
    (join c.args.out.now.items front why c.extend_from_slice.new.self.items c.extend_from_slice-2.new.self.items c.in_ok-extend_from_slice.ensures.items
    (c.in_ok-extend_from_slice-2.ensures.items ∙ ap (λ (t : List ℕ). c.extend_from_slice.new.self.items ++ t) (c.as_bytes.ensures.value ∙ c.text.ensures)))
    c.extend_from_slice-3.ensures.items
