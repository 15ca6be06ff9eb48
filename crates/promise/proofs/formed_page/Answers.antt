-- `promise::formed_page` meets its contract. Assumes nothing.
use Rattle.promise.proofs.Made.{of_form}
use Rattle.promise.proofs.formed_page.Goals as goal

pub returns : goal.returns
returns c =
    of_form c.args.num c.args.count c.args.words c.args.out.now _ _ c.form.ensures.value c.form.ensures.out_after
