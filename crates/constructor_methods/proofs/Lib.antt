mod ConstructLaws
mod ConstructorFields
mod ConstructorMethodLaws
mod FewNeeds
mod ShortForms
