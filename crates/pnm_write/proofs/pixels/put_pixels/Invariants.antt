use Rattle.pnm_write.proofs.Words.{◌≡◌, ◌-◌, ◌*◌, ◌%◌, ◌<◌, ◌≤◌, ◌++◌, take, drop, all_pixels, Bit, plain_row_text, cells}
use Rattle.pnm_write.proofs.pixels.put_pixels.Given as goal

-- lines that are ended, and the characters of the other pixels
abbrev pub invariant-loop-done : goal.invariant-loop-done
invariant-loop-done l = record {
  text : take (2 * l.count) l.buffer ≡ plain_row_text Bit (take l.done (take l.count (all_pixels l.bytes)))
      ++ cells (drop l.done (take l.count (all_pixels l.bytes)));
  within : l.done ≤ l.count;
  whole : l.done < l.count → l.done % 35 ≡ 0;
}

abbrev pub decreases-loop-done : goal.decreases-loop-done
decreases-loop-done l = l.count - l.done
