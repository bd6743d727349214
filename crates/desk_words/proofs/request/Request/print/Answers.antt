use Rattle.desk_words.proofs.RequestLemmas.{has_float-request_data}
use Rattle.desk_words.proofs.request.Request.print.Goals as goal

pub print_value-requires : goal.print_value-requires
print_value-requires c = rw c.in_ok-value.ensures (has_float-request_data c.args.self.now)
