use Rattle.wide_ucstr.proofs.Compared.{order_of_contents}
use Rattle.wide_ucstr.proofs.laws.order_of_contents.Goals as goal

pub returns : goal.returns
returns c = order_of_contents
