-- Rows whose codes have no capital: those of an accepted store, with a row more, and with one less. Assumes nothing.
use mathlib.Core.Path.{sym, subst}
use mathlib.Core.List.{List, ◌∷◌, map, Memᴰ}
use Prim.Native.Nat.{ℕ, ◌+◌, ◌<◌}
use Rattle.words.specs.Folds.{Folded}
use Rattle.page.specs.Page.{count, code, rows}
use Rattle.partition.specs.declared.Shape.{Shape}
use Rattle.partition.specs.Partition.{Row}
use Rattle.partition.specs.Listing.{without}
use Rattle.partition.proofs.Rising.{without_member}
use Rattle.store.specs.Pages.{page, contents, as_row, rows_held}
use Rattle.store.specs.Accepted.{Accepted}
use Rattle.store.specs.Demands.{Sized, Hash}
use Rattle.store.proofs.Accepted.Rules.{opened}
use Rattle.store.proofs.Paging.PageTies.{slot_of}
use Rattle.store.proofs.Showing.Shown.{some_page}
use Rattle.store.proofs.Showing.Showing.{accepted_shows, under}

abbrev pub AllFolded : List Row → Type 0
AllFolded rs = (q : Row) → Memᴰ q rs → Folded q.code

pub one_more : (r : Row) (rs : List Row) → Folded r.code → AllFolded rs → AllFolded (r ∷ rs)
one_more r rs f g q (Memᴰ.head e) = subst (λ (t : Row). Folded t.code) (sym e) f
one_more r rs f g q (Memᴰ.tail m) = g q m

pub one_less : (c : List ℕ) (rs : List Row) → AllFolded rs → AllFolded (without (λ q. q.code) c rs)
one_less c rs g q m = g q (without_member (λ q. q.code) c rs q m)

slot_folded : (g : List ℕ) → ((i : ℕ) → i < count g → Folded (code g i)) → (r : Row) → Memᴰ r (map as_row (rows g)) → Folded r.code
slot_folded g f r m = let w = slot_of g r m in subst (λ (t : Row). Folded t.code) (sym w.2) (f w.0 w.1)

-- EVERY STORED CODE IS FOLDED
pub held_folded : (S : Shape) (h : List ℕ → ℕ) → Sized S → Hash h → (s : List ℕ) → Accepted S h s → AllFolded (rows_held S s)
held_folded S h sized hash s a r m =
    let p = some_page S h (rows_held S s) (contents S s) (accepted_shows S h sized hash s a) r m in
    let u = under S h sized hash s (opened S h s a) p.0 p.1 p.2 p.3 in
    slot_folded (page S s (p.0 + 2)) u.bytes.folded r (rw u.its at p.4)
