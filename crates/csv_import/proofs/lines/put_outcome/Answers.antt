use Rattle.std.proofs.Common.{arith}
use Rattle.csv_import.proofs.LineLemmas.{line_fits}
use Rattle.csv_import.proofs.lines.put_outcome.Goals as goal

pub put_pieces-requires : goal.put_pieces-requires
put_pieces-requires c = record {
  room = omega (
    arith,
    line_fits c.args.key.now c.as_str.result.now c.args.word.now c.digits-number.result.now
        c.as_str.ensures.value c.as_str.ensures.code c.requires.short
        c.digits-number.ensures.short,
    c.requires.room,
  );
}
