-- The demands, whole: for every page size and every hash of 32 bits, and with nothing left to assume.
-- Assumes nothing.
use Rattle.store.specs.Demands.{Demand1, Demand2, Demand3}
use Rattle.store.proofs.Demands.Kept.{refusal_keeps, output_kept, check_exact, lookup_is_map, put_refused, either_as_before}
use Rattle.store.proofs.Demands.Order.{refused_in_order, format_succeeds}
use Rattle.store.proofs.Accepted.Format.{format_accepted, accepted_always}
use Rattle.store.proofs.Showing.Walked.{listed_once}
use Rattle.store.proofs.Demands.Given.{count_is_size, row_is_listed, inspect_is_slot, place_comes_back}
use Rattle.store.proofs.Put.PutRows.{put_rows}
use Rattle.store.proofs.Remove.MoveRows.{remove_rows}
use Rattle.store.proofs.Demands.Afresh.{put_map, remove_map, always_afresh, next_put_same}
use Rattle.store.proofs.Demands.KeptPages.{kept_pages}

pub demand_1 : Demand1
demand_1 S h = (refused_in_order S h, format_succeeds S h, refusal_keeps S h, output_kept S h)

pub demand_2 : Demand2
demand_2 S h sized hash =
    let puts = put_rows S h sized hash in
    let removes = remove_rows S h sized hash in (
      check_exact S h,
      lookup_is_map S h,
      put_map S h sized hash puts removes,
      remove_map S h sized hash puts removes,
      put_refused S h,
      listed_once S h sized hash,
      count_is_size S h sized hash,
      row_is_listed S h sized hash,
      inspect_is_slot S h,
      place_comes_back S h sized hash,
      accepted_always S h sized,
      format_accepted S h sized,
      either_as_before S h,
    )

pub demand_3 : Demand3
demand_3 S h sized hash =
    let puts = put_rows S h sized hash in
    let removes = remove_rows S h sized hash in
    (always_afresh S h sized hash puts removes, next_put_same S h sized hash puts removes, kept_pages S h sized hash)
