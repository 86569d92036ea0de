-- Lines taken from what is left of a text.
--   Starts text l       l is all of the text, which has 1 to 4,096 bytes
--   Due k l line m      l begins with a well-formed line of the key k, and m is left
--   Takes ss l m        l begins with the lines ss, all in range, and m is left
--   Misses k l f        l does not begin with a line of the key k that is in range, and f says why
--   Refuses ss l f      l begins with some of the lines ss, and the next fails by f
use Rattle.std.specs.Prelude.{◌≡◌, ℕ, ◌+◌, List}
use Rattle.text.specs.declared.fault.Fault.{Fault}
use Rattle.text.specs.declared.key.Key.{Key}
use Rattle.text.specs.declared.lines.Lines.{Lines}
use Rattle.text.specs.declared.value.Line.{Line}
use Rattle.text.specs.Key.{sort_of}
use Rattle.text.specs.Slots.{Sized, Slot, Taken, Took, Fails, Stops}
use Rattle.text.specs.Value.{Means}

pub record Starts (text : List ℕ) (l : Lines) : Type 0 where
  pub sized : Sized text
  pub rest : l.rest.now ≡ text
  pub number : l.number ≡ 0

pub record Due (k : Key) (l : Lines) (line : Line) (m : Lines) : Type 0 where
  pub bytes : List ℕ
  pub taken : Taken k l.rest.now bytes m.rest.now
  pub means : Means (sort_of k) bytes line.value
  pub placed : line.number ≡ l.number + 1
  pub counted : m.number ≡ l.number + 1

abbrev pub Takes : List Slot → Lines → Lines → Type 0
Takes ss l m = Took ss l.rest.now l.number m.rest.now m.number

abbrev pub Misses : Key → Lines → Fault → Type 0
Misses k l f = Fails k l.rest.now (l.number + 1) f

abbrev pub Refuses : List Slot → Lines → Fault → Type 0
Refuses ss l f = Stops ss l.rest.now l.number f
