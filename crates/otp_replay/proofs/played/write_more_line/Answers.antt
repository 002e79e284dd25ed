use Rattle.std.proofs.Common.{ℕ, List, ◌++◌, codes, decimal}
use Rattle.otp_replay.specs.Told.{more_line}
use Rattle.otp_replay.proofs.Puts.{join, put_last}
use Rattle.otp_replay.proofs.played.write_more_line.Goals as goal

pub returns : goal.returns
unfolding more_line
returns c =
    let name : List ℕ = c.args.name.now in
    let colon : List ℕ = codes ": " in
    let more : List ℕ = decimal c.args.more in
    put_last c.extend_from_slice-3.result c.args.out.now.items (name ++ colon ++ more) (codes " more lines look as if they could be played\n") c.write_number.new.out.items c.extend_from_slice-3.new.self.items
    (join c.args.out.now.items (name ++ colon) more c.extend_from_slice-2.new.self.items c.write_number.new.out.items
    (join c.args.out.now.items name colon c.extend_from_slice.new.self.items c.extend_from_slice-2.new.self.items c.in_ok-extend_from_slice.ensures.items c.in_ok-extend_from_slice-2.ensures.items)
    c.in_ok-write_number.ensures)
    c.extend_from_slice-3.ensures.items
