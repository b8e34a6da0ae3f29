-- What both passes found: a refusal, or tables that stand and are asked about.
use mathlib.Core.Path.{ap, ◌∙◌}
use Rattle.questions.specs.Questions.{lawful_question}
use Rattle.questions.specs.Replies.{judged_told}
use Rattle.files.specs.Reading.{reading}
use Rattle.files.specs.Rooms.{rooms}
use Rattle.files.specs.Reader.{desk_result}
use Rattle.reader.proofs.Reader.{passed_on, refused_loaded, standing, asked}
use Rattle.reader.proofs.is_lawful_by.Goals as goal

pub returns-in_err-p : goal.returns-in_err-p
unfolding desk_result
returns-in_err-p c =
    let a = c.args in
    let e = refused_loaded (λ t. lawful_question t a.plan.now) (reading a.file.now) (rooms a.sizes.now a.pairs.now a.rows.now) _ _ c.in_err-p.ensures in
    record { result_value = passed_on c.from_residual.result _ c.from_residual.ensures.1 ∙ ap (λ x. x.answer) e; rows_after = ap (λ x. x.rooms) e }

pub returns : goal.returns
unfolding desk_result
returns c =
    let a = c.args in
    let e = asked _ _ _ _ _ _ (standing (reading a.file.now) (rooms a.sizes.now a.pairs.now a.rows.now) _ _ _ _ c.in_ok-p.ensures) (λ t. lawful_question t a.plan.now) (judged_told c.is_lawful.result) c.is_lawful.ensures in
    record { result_value = ap (λ x. x.answer) e; rows_after = ap (λ x. x.rooms) e }
