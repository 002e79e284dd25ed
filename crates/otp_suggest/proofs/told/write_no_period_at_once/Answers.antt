use Rattle.std.proofs.Common.{◌≡◌, ◌++◌, Bool, OnOk, codes, decimal, subst, sym}
use Rattle.otp_suggest.proofs.Puts.{put_three}
use Rattle.otp_suggest.specs.Told.{no_period_at_once_text}
use Rattle.otp_suggest.proofs.told.write_no_period_at_once.Goals as goal

pub returns : goal.returns
unfolding no_period_at_once_text
returns c =
    subst (λ (b : Bool). OnOk c.extend_from_slice-2.result (c.extend_from_slice-2.new.self.items ≡ c.args.out.now.items ++ no_period_at_once_text b c.args.flags.now))
    (sym c.if-not-is_none.false)
    (put_three c.extend_from_slice-2.result c.args.out.now.items (codes "no period is short enough: at once there are more restarts than ")
    (decimal c.args.flags.now.intensity) (codes "\n")
    c.extend_from_slice.new.self.items c.write_number.new.out.items c.extend_from_slice-2.new.self.items
    c.in_ok-extend_from_slice.ensures.items c.in_ok-write_number.ensures c.extend_from_slice-2.ensures.items)
