-- A rehearsal.
--   Plays platform left history    the history has the calls for the texts that are left of an input, and a board of the platform that is new at first answers them
--   Rehearses input bs             bs is what is printed of the input
use Rattle.std.specs.Prelude.{◌≡◌, ℕ, ◌⊎◌, List, [], map, Option}
use Rattle.std.specs.Borrow.{Bor}
use Rattle.board.specs.declared.refusal.Refusal.TheVariants.{Fault as FaultyText}
use Rattle.engine.specs.declared.calendar.Calendar.{Calendar}
use Rattle.engine.specs.Calendar.{supply_of}
use Rattle.few.specs.Few.{items}
use Rattle.life.specs.declared.call.Entry.{Entry}
use Rattle.life.specs.Lives.{Lives}
use Rattle.life.specs.Standing.{Standing, stopped}
use Rattle.listing.specs.Answer.{refused_text}
use Rattle.listing.specs.Listing.{Opens, Stops}
use Rattle.listing.specs.Rules.{seat_rules}
use Rattle.order.specs.Fullest.{fullest_listing}
use Rattle.rehearsal.specs.Calls.{calls_of}
use Rattle.rehearsal.specs.Report.{report}
use Rattle.rehearsal.specs.Texts.{AreJobs, Parted}
use Rattle.task.specs.declared.job.Job.{Job}
use Rattle.text.specs.declared.fault.Fault.{Fault}

pub record Plays (platform : Calendar) (left : Option (List ℕ)) (history : List Entry) : Type 0 where
  pub texts : List (Bor (List ℕ))
  pub jobs : List Job
  pub parted : Parted left (map (λ x. x.now) texts)
  pub written : AreJobs (map (λ x. x.now) texts) jobs
  pub called : map (λ e. e.call) history ≡ calls_of (supply_of (items platform.courses)) texts jobs
  pub end : Standing
  pub lives : Lives (seat_rules platform) (stopped [] (fullest_listing (record {}))) history end

abbrev pub Rehearses : List ℕ → List ℕ → Type 0
Rehearses input bs =
    ((f : Fault) × Stops input f × (bs ≡ refused_text (FaultyText f)))
    ⊎ ((platform : Calendar) × (left : Option (List ℕ)) × Opens input platform left × (history : List Entry) × Plays platform left history × (bs ≡ report history))
