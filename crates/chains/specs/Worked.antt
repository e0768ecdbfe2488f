-- Chain pages of worked lengths, at each page size: 1,012 bytes fill a first page of 1,024, each next takes 1,016. Assumes nothing.
use Rattle.std.specs.Prelude.{◌≡◌}
use Rattle.chains.specs.Chains.{links}

pub record WorkedLinks : Type 0 where
  -- up to 64 bytes a code has no chain
  pub short : links 1016 64 ≡ 0
  pub first : links 1016 65 ≡ 1
  pub first_full : links 1016 1012 ≡ 1
  pub second : links 1016 1013 ≡ 2
  pub second_full : links 1016 2028 ≡ 2
  pub third : links 1016 2029 ≡ 3
  pub longest : links 1016 3000 ≡ 3
  -- at 4,096 and 16,384 bytes one page holds the longest code
  pub middle : links 4088 3000 ≡ 1
  pub large : links 16376 3000 ≡ 1
