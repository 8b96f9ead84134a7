use Rattle.pnm_read.proofs.Words.{◌≡◌, ◌+◌, ◌-◌, ◌<◌, ◌≤◌, ◌∷◌, [], ◌++◌, length, get_or, arith, rules, plain_pixel}
use Rattle.pnm_read.proofs.LeadingLaws.{takes_none, white_at_once, white_more, pixel_taken}
use Rattle.pnm_read.proofs.leading.take_pixels.Goals as goal
use Rattle.pnm_read.proofs.leading.take_pixels.Goals.{then-byte-ge48+then-byte-le49+in_ok-push, else-byte-ge48+else-not-is_white}

pub loop-at-init : goal.loop-at-init
loop-at-init c =
    record { taken = takes_none; white = white_at_once (omega arith); most = λ h. h }

pub loop-at-preserved : goal.loop-at-preserved
loop-at-preserved c =
    elim c.if-byte-ge48.branch [
      | then-byte-ge48+then-byte-le49+in_ok-push w ↦
          let longer : w.push.new.self.items ≡ c.loop-at.row.items ++ w.from.result ∷ [] = search rules in
          let is : w.from.result ≡ 49 - get_or c.args.bytes.now c.loop-at.at 0 = search rules in
          let there : c.loop-at.at < length c.args.bytes.now = omega arith in
          let most : length c.args.row.now.items ≤ c.args.wanted → length w.push.new.self.items ≤ c.args.wanted = λ h. search rules in
          rw (w.row-is, w.taken-is) (record {
            taken = pixel_taken c.requires c.loop-at.invariant.taken c.loop-at.invariant.white there (search rules) (search rules) is longer;
            white = white_at_once (omega arith);
            most = most;
          })
      | else-byte-ge48+else-not-is_white w ↦
          rw (w.row-is, w.taken-is) (record {
            taken = c.loop-at.invariant.taken;
            white = white_more c.loop-at.invariant.white (omega arith) (search rules);
            most = c.loop-at.invariant.most;
          })
    ]
