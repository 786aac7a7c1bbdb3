use Rattle.text.proofs.Puts.{word_more}
use Rattle.text.proofs.Text.put_word.Goals as goal

pub loop-b-preserved : goal.loop-b-preserved
loop-b-preserved c = search word_more
