-- THE LAWS OF THE PARTITION that other layers cite, for any hash of 32 bits and any shape: one place to look. What is proved in another file is passed on.
-- Assumes nothing.
use mathlib.Core.Path.{◌≡◌, refl, sym, subst}
use mathlib.Core.Logic.{◌↔◌}
use mathlib.Core.List.{List, Memᴰ}
use Prim.Native.Nat.{ℕ, ◌^◌, ◌≤◌, ◌<◌}
use Rattle.partition.specs.Bits.{top}
use Rattle.partition.specs.declared.Shape.{Shape}
use Rattle.partition.specs.Partition.{Row, Prefix, rows_of, IsBucket, Fine, buckets}
use Rattle.partition.proofs.Tree.{pfx}
use Rattle.partition.proofs.Sum.{prefix_row}
use Rattle.partition.proofs.Pages.{Page, gather, Good, prefixes, page_of}
-- ---- PREFIXES. The top k bits are a shift; two hashes have the same ones exactly when they share k leading bits (`shares`).
pub use Rattle.partition.proofs.Bits.{top_is, top_step, top_lt, shares}
-- ---- THE LIST IS EXACTLY THE BUCKETS (`listed`, and `exactly` below), each once and ascending: by the deepest depth (`in_order_lem`), by the directory's own (`in_order_here`);
-- none overlapping (`no_overlap`). Lists with the same buckets are equal (`buckets_ext`). No bucket is deeper than the deepest depth (`not_deeper`).
pub use Rattle.partition.proofs.Rows.{listed}
pub use Rattle.partition.proofs.Laws.{in_order_lem, no_overlap, buckets_ext}
pub use Rattle.partition.proofs.Directory.{in_order_here, depth_bound, depth_least, depth_least_deep}
pub use Rattle.partition.proofs.Store.{not_deeper}
-- ---- EVERY ROW IS IN EXACTLY ONE where refusal 6 never applied (`in_one` below; `every_row`). It is kept by put and remove (`fine_none`, `fine_add`, `fine_drop`, `fine_reordered`).
-- The rows of a prefix are those of the buckets at or below it (`prefix_spread`), all rows those of all buckets (`rows_spread`).
pub use Rattle.partition.proofs.Store.{every_row, fine_none, fine_add, fine_drop, fine_reordered}
pub use Rattle.partition.proofs.Listed.{prefix_spread, rows_spread}
-- ---- THE ORDER OF ROWS DOES NOT MATTER: to the buckets (`reordered`), to the map (`same_map`), to the rows in order (`order_same`, `bucket_same`), to the listing (`listing_same`).
pub use Rattle.partition.proofs.Laws.{reordered, load_reordered}
pub use Rattle.partition.proofs.Sorted.{same_map, order_same, bucket_same, listing_same}
-- ---- ADDING A ROW. It fits its bucket: nothing changes (`put_fits`). No bucket holds its hash: one more, the shallowest prefix without rows (`put_unheld`). It does not fit: one bucket
-- becomes the stretch below it (`put_splits`, strictly below: `add_splits`), which is the partition of that page's rows and the new one alone (`put_splits_page`).
pub use Rattle.partition.proofs.Store.{put_fits, New, put_unheld, put_splits, put_splits_page, page_alone}
pub use Rattle.partition.proofs.Laws.{add_splits}
pub use Rattle.partition.proofs.Splice.{Spliced, at_below}
-- ---- REMOVING A ROW. In place of all buckets at or below the shallowest prefix whose remaining rows fit (`home`) comes that one (`remove_joins`), or nothing (`remove_clears`);
-- a bucket elsewhere has the rows that it had (`outside_rows`).
pub use Rattle.partition.proofs.Laws.{Shallowest}
pub use Rattle.partition.proofs.Store.{home, remove_joins, remove_clears, outside_rows}
-- ---- THE NUMBER OF BUCKETS before and after (refusal 7); a row more never makes fewer (`count_more`).
pub use Rattle.partition.proofs.Splice.{spliced_length}
pub use Rattle.partition.proofs.Store.{count_fits, count_new, count_splits, count_more}
-- ---- THE DIRECTORY. The entry of a hash names its bucket (`named`) or nothing (`unnamed`), and every entry is a hash's (`entry_hash`). A bucket has exactly the entries from its first to
-- the one before `after` (`entries_of`), all in the directory (`entries_within`): 2 ^ (d - k) of them (`entries_size`).
pub use Rattle.partition.proofs.Directory.{named, unnamed, entry_hash, entries_of, entries_within, entries_size}
-- ---- WHAT THE CHECK SHOWS. Pages that keep to their prefixes, none overlapping, have the rows of their prefixes (`page_rows`); if each says of itself that it is a bucket it is one
-- (`pages_are`), and they are all the buckets (`pages_all`, `pages_exactly` below).
pub use Rattle.partition.proofs.Pages.{page_rows, pages_are, pages_all}
-- ---- ROWS AS A MAP. Put sets a code and remove drops it (`map_put`, `map_remove`); both keep "no code twice" (`once_put`, `once_remove`); the map has exactly the rows (`placed_iff`).
pub use Rattle.partition.proofs.Maps.{map_put, map_remove, once_put, once_remove, placed_iff, absent, missing, cut_front, cut_length}
-- ---- ROWS IN ORDER AND THE LISTING. The rows in order are the rows (`in_order_reordered`), strictly ascending (`order_rising`); what ascends is its own order (`order_own`, `order_is`).
-- The listing has every row once (`listing_reordered`, `listing_length`, `listing_once`).
pub use Rattle.partition.proofs.Sorted.{in_order_reordered, order_rising, rising_once, order_own, order_is, order_put, order_cut, order_prefix}
pub use Rattle.partition.proofs.Listed.{listing_reordered, listing_length, listing_once}

module _ (S : Shape) (h : List ℕ → ℕ) where
  -- where refusal 6 never applied, the list has exactly the buckets
  pub exactly : ((c : List ℕ) → h c < 2 ^ 32) → (rs : List Row) → Fine S h rs → (k v : ℕ) → Memᴰ (pfx k v) (buckets S h rs) ↔ IsBucket S h rs k v
  exactly small rs f k v = let l = listed S h small rs k v in ((λ m. (l.0 m).0), λ b. l.1 (b, not_deeper S h rs f k v b))

  -- and each row is in exactly one
  pub in_one : (rs : List Row) → Fine S h rs → (r : Row) → Memᴰ r rs
      → (k : ℕ) × (k ≤ S.deepest) × IsBucket S h rs k (top k (h r.code))
      × ((j w : ℕ) → IsBucket S h rs j w → Memᴰ r (rows_of h rs j w) → (j ≡ k) × (w ≡ top k (h r.code)))
  in_one rs f r m =
      let e = every_row S h rs f r m in (
        e.0,
        e.1,
        e.2,
        λ j w b n. no_overlap S h rs j w e.0 (top e.0 (h r.code)) (h r.code) b e.2 (prefix_row h rs j w r n).1 refl,
      )

  -- pages that keep to their prefixes, none overlapping, each a bucket, are exactly the buckets
  pub pages_exactly : (ps : List Page) → Good h ps → ((p : Page) → Memᴰ p ps → IsBucket S h (gather ps) p.prefix.bits p.prefix.value)
      → (k v : ℕ) → Memᴰ (pfx k v) (prefixes h ps) ↔ IsBucket S h (gather ps) k v
  pages_exactly ps g are k v = (
    (λ m. let w = page_of h ps (pfx k v) m in subst (λ (y : Prefix). IsBucket S h (gather ps) y.bits y.value) (sym w.2) (are w.0 w.1)),
    pages_all h S ps g are k v,
  )
