use Rattle.pnm_tools.proofs.ChainLaws.{given_are_sound, given_is_prefix}
use Rattle.pnm_tools.proofs.laws.answers_are_due.Goals as goal

pub returns : goal.returns
returns c = λ tools faults received given lawful sound have.
    (given_are_sound tools faults received given lawful sound have, λ is completes. given_is_prefix tools faults received given is lawful sound have completes)
