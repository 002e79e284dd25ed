use Rattle.otp_laws.proofs.Between.{orders_start_anew_law}
use Rattle.otp_laws.proofs.EndOrders.{orders_end_after_all_law, orders_end_after_starts_law}
use Rattle.otp_laws.proofs.Life.{ends_after_all_from_law, ends_after_all_law, ids_start_anew_from_law, ids_start_anew_law, rows_start_anew_from_law, rows_start_anew_law}
use Rattle.otp_laws.proofs.laws.ends_come_between.Goals as goal

pub returns : goal.returns
returns c =
    record {
      slots = rows_start_anew_law;
      slots_from_any = rows_start_anew_from_law;
      ids = ids_start_anew_law;
      ids_from_any = ids_start_anew_from_law;
      orders = orders_start_anew_law;
      end = ends_after_all_law;
      end_from_any = ends_after_all_from_law;
      end_order = orders_end_after_all_law;
      end_of_orders = orders_end_after_starts_law;
    }
