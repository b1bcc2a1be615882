-- What is told of a call by the answer that it had is its reply.
use Rattle.std.proofs.Common.{◌≡◌, ℕ, List, Some, None, Ok, Option, refl, ap, ◌∙◌}
use Rattle.refusals.specs.declared.Refusal.{Refusal}
use Rattle.agreement.specs.declared.stage.Answer.{Answer}
use Rattle.agreement.specs.declared.stage.Answer.TheVariants.{Done}
use Rattle.agreement.specs.Meanings.{Meaning}
use Rattle.agreement.specs.Calls.{State, refusal, answer, reply, replied, word_answer}
use Rattle.hall.specs.declared.call.Call.{Call}
use Rattle.hall.specs.declared.call.Call.TheVariants.{Open, Round, Strike, Mark, Clear, Read, Lamp}
use Rattle.hall.specs.Halls.{asked}
use Rattle.play.specs.declared.reply.Told.{Told}
use Rattle.play.specs.Plays.{told_of, reply_to}

-- an answer is the one that the call has where it is not refused
same_answer : {K : Type 0} (r : Option Refusal) (a b : Answer K) → Ok b ≡ replied r a → b ≡ a
same_answer None a b e = cc
same_answer (Some x) a b e = cc

read_told : {K : Type 0} (code : K → ℕ) (p : ℕ) (w : Option K) → Ok (told_of code (Read p) (word_answer w)) ≡ reply_to code (Read p) (Ok (word_answer w))
read_told code p None = refl
read_told code p (Some w) = refl

told_is : {K : Type 0} (m : Meaning K) (code : K → ℕ) (s : State) (c : Call K) (sheet : List ℕ) (a : Answer K) → Ok a ≡ reply m s (asked c sheet) → Ok (told_of code c a) ≡ reply_to code c (Ok a)
unfolding reply answer
told_is m code s (Open take caller word) sheet a e = rw (same_answer (refusal m s (asked (Open take caller word) sheet)) Done a e) refl
told_is m code s Round sheet a e = rw (same_answer (refusal m s (asked Round sheet)) Done a e) refl
told_is m code s Strike sheet a e = rw (same_answer (refusal m s (asked Strike sheet)) Done a e) refl
told_is m code s (Mark p) sheet a e = rw (same_answer (refusal m s (asked (Mark p) sheet)) Done a e) refl
told_is m code s (Clear p) sheet a e = rw (same_answer (refusal m s (asked (Clear p) sheet)) Done a e) refl
told_is m code s (Read p) sheet a e = rw (same_answer (refusal m s (asked (Read p) sheet)) _ a e) (read_told code p _)
told_is m code s (Lamp p) sheet a e = rw (same_answer (refusal m s (asked (Lamp p) sheet)) _ a e) refl

pub replies : {K : Type 0} (m : Meaning K) (code : K → ℕ) (s : State) (c : Call K) (sheet : List ℕ) (a : Answer K) (t : Told) → t ≡ told_of code c a → Ok a ≡ reply m s (asked c sheet)
    → Ok t ≡ reply_to code c (reply m s (asked c sheet))
replies m code s c sheet a t is e = ap Ok is ∙ told_is m code s c sheet a e ∙ ap (reply_to code c) e
