use Rattle.std.proofs.Common.{◌≡◌, ℕ, ◌-◌, List, ◌++◌, length, take, drop, append_assoc, take-append-drop}
use Rattle.std.proofs.lemmas.List.{take_rest}
use Rattle.std.proofs.KnownBytes.{Appends-trans, Appends-kept}
use Rattle.script_io.proofs.write_whole.Goals as goal
use Rattle.script_io.proofs.write_whole.Goals.{in-Ok, in-Err+in_ok-again-in-Err}

-- n more bytes were written
moved : (buf done rest : List ℕ) (n : ℕ) → buf ≡ done ++ rest → buf ≡ (done ++ take n rest) ++ take (length rest - n) (drop n rest)
moved buf done rest n e = rw (take_rest rest n, append_assoc, take-append-drop) e

pub loop-preserved : goal.loop-preserved
loop-preserved g c =
    let (done, split, written) = c.loop.invariant in
    let rest = c.loop.rest.now in
    elim c.match-write.branch [
      | in-Ok w ↦
          let more : c.args.buf.now ≡ (done ++ take w.in-Ok.count rest) ++ c.match-write.rest.now = rw w.rest-is (moved _ done rest w.in-Ok.count split) in
          (done ++ take w.in-Ok.count rest, more, Appends-trans _ _ _ _ _ written w.in-Ok.ensures.bytes)
      | in-Err+in_ok-again-in-Err w ↦
          let same : c.args.buf.now ≡ done ++ c.match-write.rest.now = rw w.rest-is split in
          (done, same, Appends-kept _ _ _ _ written w.in-Err.ensures.bytes)
    ]
