-- Keys.
--   key_bytes k    the key with the equals sign after it
--   sort_of k      what the value of such a line is to be
--   node_of k      the node that a list of the key belongs to, 0 for other keys
use Rattle.std.specs.Prelude.{ℕ, List, codes}
use Rattle.text.specs.declared.key.Key.{Key}
use Rattle.text.specs.declared.key.Key.TheVariants.{Job, Period, Deadline, Nodes, Kind, Tag, Ticks, After, Engines, Marks}
use Rattle.text.specs.declared.key.Sort as sorts
use Rattle.text.specs.declared.key.Sort.{Sort}

abbrev pub key_bytes : Key → List ℕ
key_bytes Job = codes "job="
key_bytes Period = codes "period="
key_bytes (Deadline p) = codes "deadline="
key_bytes Nodes = codes "nodes="
key_bytes Kind = codes "kind="
key_bytes Tag = codes "tag="
key_bytes Ticks = codes "ticks="
key_bytes (After v) = codes "after="
key_bytes Engines = codes "engines="
key_bytes Marks = codes "marks="

abbrev pub sort_of : Key → Sort
sort_of Job = sorts.TheVariants.Number
sort_of Period = sorts.TheVariants.Number
sort_of (Deadline p) = sorts.TheVariants.Number
sort_of Nodes = sorts.TheVariants.Number
sort_of Kind = sorts.TheVariants.Kind
sort_of Tag = sorts.TheVariants.Number
sort_of Ticks = sorts.TheVariants.Number
sort_of (After v) = sorts.TheVariants.List
sort_of Engines = sorts.TheVariants.Number
sort_of Marks = sorts.TheVariants.Marks

abbrev pub node_of : Key → ℕ
node_of (After v) = v
node_of _ = 0
