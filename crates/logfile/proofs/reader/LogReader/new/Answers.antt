-- What is left to show of `new`.
use Rattle.logfile.proofs.Back.{reads_back}
use Rattle.logfile.proofs.There.{stands_there, stays}
use Rattle.logfile.proofs.reader.LogReader.new.Goals as goal

pub returns-clause-laws : goal.returns-clause-laws
returns-clause-laws c = record { reads_back = reads_back; stands_there = stands_there; stays = stays }
