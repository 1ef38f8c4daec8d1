-- Document 02, K4: what follows from the definitions of `semantics` (Definitions/Sharing.antt). The turns, by numbers alone; a step for each sheet;
-- the shares of settings; the records that so many tests meet; and the whole call, exactly when it is granted and denied.
pub mod Allowance
pub mod SheetBySheet
pub mod Shares
pub mod RecordsMet
pub mod ShareCall
pub mod Carried
