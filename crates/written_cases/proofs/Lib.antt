mod FramedItems
mod RefusedForms
