use Rattle.std.proofs.Common.{[], ◌∷◌, Some, refl}
use Rattle.std.proofs.lemmas.Bool.{ne_eqb}
use Rattle.clap.specs.Words.{Text}
use Rattle.clap.proofs.OnLiterals.{clap_on_literals}
use Rattle.pnm_command_line.specs.CommandLine.{GivesChain}
use Rattle.pnm_command_line.specs.CommandLineExamples.{BeginsWithDash, CommandLinesHold}
use Rattle.pnm_command_line.proofs.OneKind.{asks_once}
use Rattle.pnm_command_line.proofs.laws.command_lines_hold.Goals as goal

alone : (name chain : Text) → (BeginsWithDash chain → ⊥) → GivesChain (name ∷ chain ∷ []) chain
unfolding clap_on_literals
alone name [] plain = record { taken = refl; given = refl }
alone name (c ∷ rest) plain =
    let other = ne_eqb c 45 (λ e. plain (rest, rw e refl)) in
    record { taken = rw (other, other) (refl {a = []}); given = rw (other, other) (refl {a = Some (c ∷ rest)}) }

computed : CommandLinesHold
unfolding clap_on_literals
computed = record {
  alone = alone;
  asks_once = asks_once;
  both_left_out = record { both = record { chain = record { taken = refl; given = refl }; ring = refl }; lanes = refl };
  ring_before = record { chain = record { taken = refl; given = refl }; ring = refl };
  ring_after = record { chain = record { taken = refl; given = refl }; ring = refl };
  ring_attached = record { chain = record { taken = refl; given = refl }; ring = refl };
  lanes_before = record { both = record { chain = record { taken = refl; given = refl }; ring = refl }; lanes = refl };
  ring_and_lanes = record { both = record { chain = record { taken = refl; given = refl }; ring = refl }; lanes = refl };
  plain_left_out = record { chain = record { taken = refl; given = refl }; form = λ plain. absurd cc };
  plain_before = record { chain = record { taken = refl; given = refl }; form = refl };
  plain_after = record { chain = record { taken = refl; given = refl }; form = refl };
  plain_after_dashes = record { chain = record { taken = refl; given = refl }; form = λ plain. absurd cc };
  after_dashes = record { chain = record { taken = refl; given = refl }; ring = refl };
  empty_chain = record { chain = record { taken = refl; given = refl }; ring = refl };
  no_chain = refl;
  no_name = refl;
  two_chains = refl;
  ring_zero = refl;
  ring_large = refl;
  ring_letter = refl;
  ring_negative = refl;
  ring_alone = refl;
  ring_twice = refl;
  lanes_zero = refl;
  lanes_large = refl;
  lanes_letter = refl;
  lanes_twice = refl;
  plain_twice = refl;
  plain_alone = refl;
  unknown = refl;
  help = refl;
  short_help = refl;
  help_before_fault = refl;
  fault_before_help = refl;
  bad_ring_before_help = refl;
  version = refl;
  short_version = refl;
  version_before_fault = refl;
  fault_before_version = refl;
  version_before_help = refl;
  help_before_version = refl;
  both_in_a_word = refl;
  version_of_value = refl;
  version_after_dashes = record { chain = record { taken = refl; given = refl }; ring = refl };
}

pub returns : goal.returns
returns c = computed
