use Rattle.pnm_read.proofs.Words.{◌≡◌, ◌+◌, ◌∷◌, [], ◌++◌, List, ℕ, arith, rules, subst, take_rest, AllPass, take, is_white, plain_decimal, IsNumberFirst}
use Rattle.pnm_read.proofs.LeadingLaws.{takes_none, white_at_once, number_taken, white_after_number}
use Rattle.pnm_read.proofs.leading.take_numbers.Goals as goal

pub loop-start-init : goal.loop-start-init
loop-start-init c =
    record {
      taken = takes_none;
      white = white_at_once (omega arith);
      most = λ h. h;
    }

pub loop-start-preserved : goal.loop-start-preserved
loop-start-preserved c =
    let longer : c.push.new.self.items ≡ c.loop-start.row.items ++ c.in-Some.sample ∷ [] = search rules in
    let white = subst (λ (l : List ℕ). AllPass is_white (take c.white_first.result l)) (take_rest c.args.bytes.now c.loop-start.at)
    c.white_first.ensures.white in
    let number = subst (λ (l : List ℕ). IsNumberFirst l c.in-Some.sample c.in-Some.count) (take_rest c.args.bytes.now (c.loop-start.at + c.white_first.result))
    c.in-Some.ensures.number in
    record {
      taken = number_taken c.args.maxval c.white_first.result c.requires.short
          c.loop-start.invariant.taken c.loop-start.invariant.white white number c.in-Some.ensures.most longer;
      white = white_after_number (c.loop-start.at + c.white_first.result) number;
      most = λ h. search rules;
    }
