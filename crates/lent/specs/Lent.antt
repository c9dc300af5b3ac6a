-- Document 01: "The host keeps one desk for the whole day and lends it to each call". Assumes nothing.
use Rattle.rows.specs.declared.Answer.{Answer}
use Rattle.desk.specs.declared.Desk.{Desk}
use Rattle.desk.specs.declared.Next.{Next}

-- what a call gave back: its answer, and the desk behind the reference afterwards
abbrev pub lent_back : Answer → Desk → Next
lent_back answer desk = record { answer = answer; desk = desk }
