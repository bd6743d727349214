use Rattle.desk_words.proofs.ReplyLemmas.{has_float-reply_data}
use Rattle.desk_words.proofs.reply.Reply.print.Goals as goal

pub print_value-requires : goal.print_value-requires
print_value-requires c = rw c.in_ok-value.ensures (has_float-reply_data c.args.self.now)
