use Prim.Native.Nat.{◌-◌, ◌≤◌}
use mathlib.Core.Path.{◌≡◌}
use lib.ListN.{length, drop}
use Rattle.script_calls.specs.Steps.{memory_of}
use Rattle.script_block.specs.Blocks.{put_since}
use Rattle.script_block.proofs.Known.{Says}
use Rattle.script_block.proofs.run_block.Given as goal

abbrev pub invariant-loop-out : goal.invariant-loop-out
invariant-loop-out l =
    record {
      words_lent : l.m.words.ghost_name ≡ l.fn.m.words.ghost_name;
      bytes_lent : l.out.bytes.ghost_name ≡ l.fn.out.bytes.ghost_name;
      words_many : length l.m.words.now ≡ length l.fn.m.words.now;
      bytes_many : length l.out.bytes.now ≡ length l.fn.out.bytes.now;
      after : l.fn.out.at ≤ l.out.at;
      within : l.out.at ≤ length l.out.bytes.now;
      left : length l.rest ≤ length l.bytes;
      taken : l.rest ≡ drop (length l.bytes - length l.rest) l.bytes;
      says : Says (memory_of l.fn.m) l.bytes (put_since l.fn.out l.out) (memory_of l.m) l.rest;
    }

abbrev pub decreases-loop-out : goal.decreases-loop-out
decreases-loop-out l = length l.rest
