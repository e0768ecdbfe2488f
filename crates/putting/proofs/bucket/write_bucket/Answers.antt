-- `putting::write_bucket` meets its contract: the rows before the new one, the new one, and those behind it. Assumes nothing.
use Rattle.std.proofs.Common.{ℕ, List, [], ◌∷◌, ◌++◌, arith, sym, subst}
use Rattle.hash.specs.Fnv.{fnv}
use Rattle.page.specs.Page.{count}
use Rattle.page.specs.Packed.{Fresh}
use Rattle.partition.specs.Partition.{Row, rows_of}
use Rattle.putting.proofs.Appends.{behind_left, behind_next, appended_then, fresh_behind, bucketed}
use Rattle.putting.proofs.Weighs.{new_at}
use Rattle.putting.specs.declared.weigh.Weight.{Weight}
use Rattle.putting.specs.Put.{new_row}
use Rattle.putting.specs.Split.{slots, with_new, Behind, Appended, Bucketable, Bucketed}
use Rattle.putting.proofs.bucket.write_bucket.Goals as goal

-- the empty page x, and the rows that go behind one another
module _ (from : List ℕ) (i : ℕ) (key place : List ℕ) (ws : List Weight) (k v : ℕ) (page : List ℕ) (B : Bucketable fnv from i key place ws k v page) (x : List ℕ) (F : Fresh page k x) where
  abbrev first : List Row
  first = rows_of fnv (slots from 0 i) k v

  abbrev mid : List Row
  mid = rows_of fnv (new_row key place ∷ []) k v

  abbrev last : List Row
  last = rows_of fnv (slots from i (count from)) k v

  behind_all : Behind x (first ++ (mid ++ last))
  behind_all = fresh_behind fnv from i key place B.source k v page x F B.fits

  behind_first : Behind x first
  behind_first = behind_left x first (mid ++ last) behind_all

  -- with the rows before the new one, and with the new one
  module _ (y : List ℕ) (A : Appended x first y) where
    behind_mid : Behind y (mid ++ last)
    behind_mid = behind_next x first y A (mid ++ last) behind_all

    behind_new : Behind y mid
    behind_new = behind_left y mid last behind_mid

    module _ (u : List ℕ) (C : Appended y mid u) where
      behind_last : Behind u last
      behind_last = behind_next y mid u C last behind_mid

      written : (t : List ℕ) → Appended u last t → Bucketed fnv (with_new from (new_row key place)) k v page t
      written t D = bucketed fnv from i key place B.source k v page x F B.fits B.some t (appended_then x first y A (mid ++ last) t (appended_then y mid u C last t D))

pub append_slots-requires : goal.append_slots-requires
append_slots-requires c =
    let R = c.requires in
    record {
      behind = behind_first _ _ _ _ _ _ _ _ R c.new_page.new.page c.new_page.ensures;
      page = R.source.page;
      hashes = R.hashes.rows;
      from = omega arith;
      to = R.source.belongs.within;
      deep = R.deep;
    }

-- the new row's hash
pub append_if-requires : goal.append_if-requires
append_if-requires c =
    let R = c.requires in
    record {
      behind = behind_new _ _ _ _ _ _ _ _ R c.new_page.new.page c.new_page.ensures c.append_slots.new.page c.append_slots.ensures;
      hash = new_at fnv (λ (w : Weight). w.hash) c.args.rows.from.now c.args.rows.ws.now (record { hash = 0; need = 0 }) c.args.rows.row.code.now R.hashes c.get16-n.result c.get16-n.ensures.0;
      deep = R.deep;
      natural = R.source.natural;
      good = R.source.good;
    }

pub append_slots-requires-2 : goal.append_slots-requires-2
append_slots-requires-2 c =
    let a = c.args in
    let R = c.requires in
    let e = c.get16-n.ensures.0 in
    record {
      behind = subst (λ n. Behind c.append_if.new.page (rows_of fnv (slots a.rows.from.now a.rows.i n) a.k a.v)) (sym e)
          (behind_last _ _ _ _ _ _ _ _ R c.new_page.new.page c.new_page.ensures c.append_slots.new.page c.append_slots.ensures c.append_if.new.page c.append_if.ensures);
      page = R.source.page;
      hashes = R.hashes.rows;
      from = omega (arith, e, R.source.belongs.within);
      to = omega (arith, e);
      deep = R.deep;
    }

pub returns : goal.returns
returns c =
    let a = c.args in
    let t = c.append_slots-2.new.page in
    written _ _ _ _ _ _ _ _ c.requires c.new_page.new.page c.new_page.ensures c.append_slots.new.page c.append_slots.ensures c.append_if.new.page c.append_if.ensures t
    (subst (λ n. Appended c.append_if.new.page (rows_of fnv (slots a.rows.from.now a.rows.i n) a.k a.v) t) c.get16-n.ensures.0 c.append_slots-2.ensures)
