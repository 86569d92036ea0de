-- What calls answer.
--   is_made a       whether the call was made
--   answer_text a   the line of an answer; nothing is said here of one with a sheet or with what ran
use Rattle.std.specs.Prelude.{ℕ, Bool, true, false, List, ◌++◌, codes, decimal, Option, Some, None}
use Rattle.board.specs.Refusal.{refusal_text}
use Rattle.play.specs.declared.answer.Answer.{Answer}
use Rattle.play.specs.declared.answer.Answer.TheVariants.{Done, Late, Next, NotTaken, Refused, Sheet, Ticked}

abbrev pub is_made : Answer → Bool
is_made Done = true
is_made (Refused f) = true
is_made (Sheet buffer l) = true
is_made (Next n) = true
is_made (Ticked late ran) = true
is_made (Late total) = true
is_made NotTaken = false

abbrev pub answer_text : Answer → Option (List ℕ)
answer_text Done = Some (codes "answer=0\n")
answer_text (Refused f) = Some (codes "answer=" ++ (refusal_text f ++ codes "\n"))
answer_text (Sheet buffer l) = None
answer_text (Next None) = Some (codes "next=-\n")
answer_text (Next (Some n)) = Some (codes "next=" ++ (decimal n.job ++ (codes "," ++ (decimal n.node ++ codes "\n"))))
answer_text (Ticked late ran) = None
answer_text (Late total) = Some (codes "late=" ++ (decimal total ++ codes "\n"))
answer_text NotTaken = Some (codes "answer=-\n")
