-- What was heard is what is concluded from.
use Rattle.talk.proofs.Telling.{spoken_bytes}
use Rattle.talk.proofs.Talk.speak.Goals as goal

pub returns : goal.returns
returns g c =
    let heard = c.converse-heard.ensures in
    let end = c.conclude.ensures in
    let known = spoken_bytes _ _ heard.0 _ _ _ _ _ _ _ heard.1 heard.2 heard.3 end.concludes.0 end.wrote in
    rw end.reader (heard.0, end.concludes.1 heard.0 heard.1, known.0, known.1)
