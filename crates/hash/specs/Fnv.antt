-- What others may see of the hash: its name, its 32 bits and its worked values. Assumes nothing.
pub use Rattle.fnv.specs.Fnv.{fnv}
pub use Rattle.fnv.proofs.Worked.{fnv_lt, fnv_none, fnv_a, fnv_b, fnv_c, fnv_high}
