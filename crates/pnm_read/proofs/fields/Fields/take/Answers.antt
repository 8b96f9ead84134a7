use Rattle.pnm_read.proofs.Words.{ap, sym, ◌∙◌, trimmed, kind_of_token}
use Rattle.pnm_read.proofs.WalkLaws.{value_is_rest}
use Rattle.pnm_read.proofs.FieldSteps.{line_of_nothing, line_of_end, line_of_number, line_of_type}
use Rattle.pnm_read.proofs.fields.Fields.take.Goals as goal

pub returns-in-Nothing-clause-judged : goal.returns-in-Nothing-clause-judged
returns-in-Nothing-clause-judged c = line_of_nothing c.args.self.now c.args.line.now (sym (c.of.ensures ∙ ap kind_of_token c.split_token.ensures.token)
    ∙ c.in-Nothing.is)

pub returns-in-Number-clause-judged : goal.returns-in-Number-clause-judged
returns-in-Number-clause-judged c =
    line_of_number c.args.self.now c.set_number.new.self c.args.line.now c.set_number.result
    (sym (c.of.ensures ∙ ap kind_of_token c.split_token.ensures.token) ∙ c.in-Number.is) c.split_token.ensures.rest c.set_number.ensures

pub returns-in-TupleType-clause-judged : goal.returns-in-TupleType-clause-judged
returns-in-TupleType-clause-judged c =
    line_of_type c.args.self.now c.add_tuple_type.new.self c.args.line.now c.add_tuple_type.result
    (sym (c.of.ensures ∙ ap kind_of_token c.split_token.ensures.token) ∙ c.in-TupleType.is)
    (c.trim.ensures ∙ ap trimmed c.split_token.ensures.rest ∙ sym (value_is_rest c.args.line.now)) c.add_tuple_type.ensures

pub returns-in-End-clause-judged : goal.returns-in-End-clause-judged
returns-in-End-clause-judged c = line_of_end c.args.self.now c.args.line.now (sym (c.of.ensures ∙ ap kind_of_token c.split_token.ensures.token) ∙ c.in-End.is)
