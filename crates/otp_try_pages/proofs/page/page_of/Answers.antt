use Rattle.otp_try_pages.proofs.Told.{paged}
use Rattle.otp_try_pages.proofs.page.page_of.Goals as goal

pub returns : goal.returns
returns c =
    paged c.args.name.now c.args.account.now c.seats.result.now c.is_played.result c.in_ok-write_trial_verdict.ensures.0
    c.new-verdict.result.items c.write_trial_verdict.new.out.items c.as_slice.result.now c.new-page.result.items c.put_page.new.out.items
    c.seats.ensures c.is_played.ensures c.new-verdict.ensures.items c.in_ok-write_trial_verdict.ensures.1 c.as_slice.ensures.value c.new-page.ensures.items c.in_ok-put_page.ensures
