-- THE LAWS OF THE STORE that the promises cite, for any hash of 32 bits and any page size: one place to look. Each is proved in the file that it is passed on from.
-- Assumes nothing.
-- ---- A page of a store: its rows in the words of the map, lent and given back.
pub use Rattle.store.proofs.Paging.PageTies.{page_needs, read_slotted, read_cleared, page_order, page_frontier, added_rows, packed_rows, removed_rows}
pub use Rattle.store.proofs.Paging.Records.{fits_says}
-- ---- The rules of an accepted store, what its directory says, and the way from bytes to an accepted store.
pub use Rattle.store.proofs.Accepted.Accepting.{laid_becomes, laid_accepted}
pub use Rattle.store.proofs.Accepted.Format.{accepted_always, format_accepted}
pub use Rattle.store.proofs.Accepted.Rules.{broken_one, broken_stops, stops_broken, stops_one, stops_not}
pub use Rattle.store.proofs.Accepted.Unique.{becomes_one}
pub use Rattle.store.proofs.Accepted.OwnSize.{size_is_said, small_as_before}
-- ---- Pages that show rows: a page for each bucket worked out afresh.
pub use Rattle.store.proofs.Showing.Rooms.{find_free, rooms}
pub use Rattle.store.proofs.Showing.Showing.{accepted_rows, accepted_shows}
pub use Rattle.store.proofs.Showing.Walked.{listed_once, walk_here, walk_past}
-- ---- What a put leaves.
pub use Rattle.store.proofs.Put.EveryStep.{every_step, Roomy}
pub use Rattle.store.proofs.Put.OverShows.{over_shows, over_one}
pub use Rattle.store.proofs.Put.PutCases.{put_fits_is, put_unheld_is, put_splits_is, fits_seven, splits_seven, unheld_seven, splits_room}
pub use Rattle.store.proofs.Put.Written.{write_all}
-- ---- What a remove leaves.
pub use Rattle.store.proofs.Remove.RemoveCases.{removed_loses, removed_joins, removed_clears, needs_left}
pub use Rattle.store.proofs.Remove.RemoveShows.{remove_shows}
-- ---- Every table has a result.
pub use Rattle.store.proofs.Result.Answered.{format_answered, check_answered, count_answered, lookup_answered, row_answered, inspect_answered}
pub use Rattle.store.proofs.Result.Total.{answered_always, put_answered, mode_answered, remove_answered}
-- ---- The three demands, proved of the tables.
pub use Rattle.store.proofs.Demands.Afresh.{always_afresh}
pub use Rattle.store.proofs.Demands.Choice.{put_chooses, remove_chooses}
pub use Rattle.store.proofs.Demands.Given.{row_is_listed, count_is_size, place_comes_back, inspect_is_slot}
pub use Rattle.store.proofs.Demands.Kept.{refusal_keeps, output_kept, check_exact, lookup_is_map, put_refused, unrefused, either_as_before, no_three, three, no_fourteen, a_mode}
pub use Rattle.store.proofs.Demands.KeptPages.{kept_pages}
pub use Rattle.store.proofs.Demands.Meaning.{meaning_one}
pub use Rattle.store.proofs.Demands.Order.{refused_in_order, format_succeeds, good_length, whole_pages}
pub use Rattle.store.proofs.Demands.Modes.{is_known, is_absent, let_known, let_new, mode_0, mode_each, put_each}
pub use Rattle.store.proofs.Demands.Plan.{put_is_map, remove_is_map}
pub use Rattle.store.proofs.Demands.Said.{format_said, check_said, count_said, lookup_said, put_said, remove_said, row_said, inspect_said}
pub use Rattle.store.proofs.Demands.Same.{same_refusals}
pub use Rattle.store.proofs.Demands.Settled.{format_settled, check_settled, count_settled, lookup_settled, row_settled, inspect_settled, put_settled, mode_settled, remove_settled}
pub use Rattle.store.proofs.Demands.Whole.{demand_1, demand_2, demand_3}
