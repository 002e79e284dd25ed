use Rattle.std.proofs.Common.{◌≡◌, ◌∙◌, List, ap, get_or}
use Rattle.otp_table.specs.declared.row.Row.{Row}
use Rattle.otp_table.specs.Rows.{is_left, is_supervisor, is_worker}
use Rattle.otp_table.proofs.Counted.{removed_counted, removed_kinds}
use Rattle.otp_table.proofs.counts.uncount_row.Goals as goal

pub returns : goal.returns
returns c =
    let rows : List Row = c.args.rows.now in
    let d : Row = c.row_at-row.result.now in
    let here : d ≡ get_or rows c.args.place d = c.row_at-row.ensures d in
    record {
      kinds = removed_kinds rows c.args.place d c.args.counts.now.by_kind c.take_one.new.by_kind c.kind_of.result c.requires.place here c.kind_of.ensures.kind c.requires.counted.kinds c.take_one.ensures;
      left = removed_counted is_left rows c.args.place d _ _ _ c.requires.place c.requires.counted.left (c.is_left.ensures ∙ ap is_left here) c.changed-counts.ensures;
      supervisors = removed_counted is_supervisor rows c.args.place d _ _ _ c.requires.place c.requires.counted.supervisors (c.is_supervisor.ensures ∙ ap is_supervisor here) c.changed-counts-2.ensures;
      workers = removed_counted is_worker rows c.args.place d _ _ _ c.requires.place c.requires.counted.workers (c.is_worker.ensures ∙ ap is_worker here) c.changed-counts-3.ensures;
    }
