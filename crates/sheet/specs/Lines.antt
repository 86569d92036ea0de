-- The lines of a sheet.
--   title j c             job=j, then choice=c
--   node_line v e o l     node=v,e,o,l
use Rattle.std.specs.Prelude.{ℕ, List, ◌++◌, codes, decimal}

abbrev pub title : ℕ → ℕ → List ℕ
title j c = codes "job=" ++ (decimal j ++ (codes "\nchoice=" ++ (decimal c ++ codes "\n")))

abbrev pub node_line : ℕ → ℕ → ℕ → ℕ → List ℕ
node_line v e o l = codes "node=" ++ (decimal v ++ (codes "," ++ (decimal e ++ (codes "," ++ (decimal o ++ (codes "," ++ (decimal l ++ codes "\n")))))))
