-- What a call is answered, as the law has it, and the text of what is said of a line that makes none.
use Rattle.std.specs.Prelude.{ℕ, List, ◌++◌, Ok, Err, codes, decimal, Result}
use Rattle.model.specs.Refusals.{Detail, nothing, place, parameter, failure, Told}
use Rattle.certify.specs.Refusals.{certify_refusal}
use Rattle.program.specs.Numbers.{line_refusal}
use Rattle.session.specs.Refusals.{allow_refusal, start_refusal, step_refusal, dry_refusal}
use Rattle.session.specs.declared.progress.Progress.{Progress}
use Rattle.session.specs.declared.progress.Progress.TheVariants.{WentOn as Went, Commanded as Position, Ended as End}
use Rattle.travel.specs.Refusals.{travel_number}
use Rattle.calls.specs.Law.{Answer, done, certified, went_on, commanded, ended, comes_to, refused}
use Rattle.desk.specs.declared.answer.Note.{Note}
use Rattle.desk.specs.declared.answer.Note.TheVariants.{NoTable, Bad}
use Rattle.desk.specs.declared.answer.Refusal.{Refusal}
use Rattle.desk.specs.declared.answer.Refusal.TheVariants.{Line as OfLine, Allow as OfAllow, Certify as OfCertify, Start as OfStart, Step as OfStep, Dry as OfDry}
use Rattle.desk.specs.declared.answer.Reply.{Reply}
use Rattle.desk.specs.declared.answer.Reply.TheVariants.{Done, Certified, WentOn, Commanded, Ended, Came, Refused}
use Rattle.desk.specs.declared.text.Detail.{Detail as TextDetail}
use Rattle.desk.specs.declared.text.Detail.TheVariants.{Nothing, Place, Parameter, Failure}

-- what the refusal of a call tells
abbrev pub call_refusal : Refusal → Told
call_refusal (OfLine why) = line_refusal why
call_refusal (OfAllow why) = allow_refusal why
call_refusal (OfCertify why) = certify_refusal why
call_refusal (OfStart why) = start_refusal why
call_refusal (OfStep why) = step_refusal why
call_refusal (OfDry why) = dry_refusal why

-- the code's detail, as the law's
abbrev pub detail : TextDetail → Detail
detail Nothing = nothing
detail (Place p) = place p
detail (Parameter n) = parameter n
detail (Failure f) = failure f

-- the code's reply, as the law's answer
abbrev pub answer : Reply → Answer
answer Done = done
answer (Certified c) = certified c.hulls
answer WentOn = went_on
answer (Commanded p) = commanded p
answer Ended = ended
answer (Came o) = comes_to o
answer (Refused why) = refused (call_refusal why)

abbrev pub by_reply : Result Reply Refusal → Answer
by_reply (Ok a) = answer a
by_reply (Err why) = refused (call_refusal why)

abbrev pub reply_of : Progress → Reply
reply_of Went = WentOn
reply_of (Position p) = Commanded p
reply_of End = Ended

-- ---- lines that ask for no call and no session
abbrev pub note_text : Note → List ℕ
note_text (NoTable e) = codes "refused " ++ decimal (travel_number e)
note_text (Bad n) = codes "bad command " ++ decimal n
