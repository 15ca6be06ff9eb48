-- `promise::from_word` meets its contract. Assumes nothing.
use Rattle.promise.proofs.Shown.{of_word}
use Rattle.promise.proofs.from_word.Goals as goal

pub returns : goal.returns
returns c = of_word c.args.word _ _ c.decode-point.ensures c.encode-back.ensures
