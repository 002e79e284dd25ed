use Rattle.otp_try_pages.proofs.Told.{told}
use Rattle.otp_try_pages.proofs.object.object_behind.Goals as goal

pub returns : goal.returns
returns c =
    told c.args.front.items c.args.account.now c.seats.result.now c.in_ok-running.running.items c.as_slice.result.now c.put_run.new.out.items
    c.seats.ensures c.in_ok-running.ensures.root c.as_slice.ensures.value c.in_ok-put_run.ensures
