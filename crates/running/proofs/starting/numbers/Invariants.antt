use Rattle.std.proofs.Common.{◌≡◌, map, take}
use Rattle.few.specs.Few.{items}
use Rattle.resident.specs.Resident.{number_of}
use Rattle.running.proofs.starting.numbers.Given as goal

abbrev pub invariant-loop-resident : goal.invariant-loop-resident
invariant-loop-resident l = items l.numbers ≡ map number_of (take l.resident-index l.residents)
