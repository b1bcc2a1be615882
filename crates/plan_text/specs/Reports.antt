-- Reports: what the planner answers to a line.
use Rattle.std.specs.Prelude.{◌≡◌, ℕ, Option, Some, None, IfOk}
use Rattle.plan_text.specs.declared.report.Report.{Report}
use Rattle.planner.specs.Plans.{Answers}

-- the report on a line has the line's number, and what it says of a rule is the answer to the request in it
abbrev pub Reported : ℕ → Option Report → Type 0
Reported line None = Unit {0}
Reported line (Some r) = (r.line ≡ line) × IfOk r.answer (λ p. Answers p.request p.outcome)
